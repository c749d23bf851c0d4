-- When an answer area keeps its layout, whoever wrote it: its counts are within the mosts (129 variables, 1,024 instances), its sections fit with zeros behind,
-- its nodes, trees, runs and spans obey the tree file's rules, names are below 256, no two variables have one name, and every kind, fate, 0/1 field and number
-- is one that exists.
use Rattle.std.specs.Prelude.{ℕ, ◌+◌, ◌*◌, Bool, true, cond, not, ◌&&◌, List, [], ◌∷◌, leb, ltb, eqb, length, take, drop}
use Rattle.functions.specs.Lists.{all}
use Rattle.ast.specs.Words.{words, section, word_of, span_from, in_order}
use Rattle.ast.specs.Nodes.{nodes_fit}
use Rattle.ast.specs.Records.{kind_of_stmt, right_top, stmt_fits}
use Rattle.definitions.specs.Numbers.{algebraic_initial_condition, initial_fate, left_over_fate, submodel_kind, most_names, most_nodes, most_stmts, most_variables, most_deps, most_instances, header_length, node_length, stmt_length, variable_length, error_length}
use Rattle.definitions.specs.Answer.{Area}
use Rattle.definitions.specs.Area.{nodes_in, stmts_in, vars_in, deps_in, listed_in, instances_in}

-- What one layout may have otherwise than another: the lengths of the header and of a variable's record, in words.
pub record Layout : Type 0 where
  pub header_length : ℕ
  pub variable_length : ℕ

-- The layout of document 01. Header, 10 words; variable, 12 words.
abbrev pub plain : Layout
plain = record { header_length = header_length; variable_length = variable_length }

-- The greatest kind of error. Those that exist are 1 to 17.
abbrev pub most_kind : ℕ
most_kind = algebraic_initial_condition

-- ---- its counts are within the mosts

-- The counts of the header h. There is no least, and the count of errors has no most: all are counted, the first 256 are listed.
unfoldable pub counts_fit : List ℕ → Bool
counts_fit h =
    leb (nodes_in h) most_nodes && leb (stmts_in h) most_stmts && leb (vars_in h) most_variables && leb (deps_in h) most_deps && leb (instances_in h) most_instances

-- ---- its sections: header, nodes, statements, variables, dependents, listed errors, one behind the other

module _ (l : Layout) (h : List ℕ) where
  -- The byte at which each begins, in an area with the header h.
  unfoldable pub nodes_at : ℕ
  nodes_at = 4 * l.header_length

  unfoldable pub stmts_at : ℕ
  stmts_at = nodes_at + 4 * node_length * nodes_in h

  unfoldable pub vars_at : ℕ
  vars_at = stmts_at + 4 * stmt_length * stmts_in h

  unfoldable pub deps_at : ℕ
  deps_at = vars_at + 4 * l.variable_length * vars_in h

  unfoldable pub errors_at : ℕ
  errors_at = deps_at + 4 * deps_in h

  -- The byte behind the last.
  unfoldable pub end_at : ℕ
  end_at = errors_at + 4 * error_length * listed_in h

  -- The records of the area b.
  unfoldable pub records_at : List ℕ → Area
  records_at b = record {
    header = h;
    nodes = section node_length (nodes_in h) nodes_at b;
    stmts = section stmt_length (stmts_in h) stmts_at b;
    vars = section l.variable_length (vars_in h) vars_at b;
    deps = take (deps_in h) (words (drop deps_at b));
    errors = section error_length (listed_in h) errors_at b;
  }

-- Nothing but zeros.
unfoldable pub zeros : List ℕ → Bool
zeros b = all (λ x. eqb x 0) b

-- They fit with zeros behind: their end lies within the area b, and every byte behind it, however many, is 0. Under the header's length nothing fits.
unfoldable pub sections_fit : ℕ → List ℕ → Bool
sections_fit end b = leb end (length b) && zeros (drop end b)

-- ---- statement: the tree file's 6 words, fate, variable

abbrev pub fate_of : List ℕ → ℕ
fate_of r = word_of r 6

abbrev pub fated_variable : List ℕ → ℕ
fated_variable r = word_of r 7

-- Fate: 1 to 4, of a variable that exists; 4, left over, has variable 0.
unfoldable pub fate_fits : ℕ → List ℕ → Bool
fate_fits vars r =
    leb initial_fate (fate_of r) && leb (fate_of r) left_over_fate && cond (eqb (fate_of r) left_over_fate) (eqb (fated_variable r) 0) (ltb (fated_variable r) vars)

-- ns are the area's nodes, of which there are `count`; `vars` is the count of its variables.
module _ (count : ℕ) (ns : List (List ℕ)) (vars : ℕ) where
  -- A statement that obeys the tree file's rules, its trees from node `first` on; kind 1 or 2, since a submodel statement breaks the layout.
  unfoldable pub row_fits : ℕ → List ℕ → Bool
  row_fits first r = stmt_fits most_names count ns first r && not (eqb (kind_of_stmt r) submodel_kind) && fate_fits vars r

  -- The trees, left before right, go from node `first` to the last without gaps.
  unfoldable pub rows_fit : ℕ → List (List ℕ) → Bool
  rows_fit first [] = eqb first count
  rows_fit first (r ∷ rs) = row_fits first r && rows_fit (right_top r + 1) rs

-- ---- variable: name plus 1, state 0/1, time index plus 1, first dependent, count, held statement plus 1, initial conditions, time-dependent 0/1, bounds

abbrev pub name_of_variable : List ℕ → ℕ
name_of_variable r = word_of r 0

abbrev pub state_of : List ℕ → ℕ
state_of r = word_of r 1

abbrev pub time_index_of : List ℕ → ℕ
time_index_of r = word_of r 2

abbrev pub first_dep_of : List ℕ → ℕ
first_dep_of r = word_of r 3

abbrev pub dep_count_of : List ℕ → ℕ
dep_count_of r = word_of r 4

abbrev pub held_stmt_of : List ℕ → ℕ
held_stmt_of r = word_of r 5

abbrev pub conditions_of : List ℕ → ℕ
conditions_of r = word_of r 6

abbrev pub time_dependent_of : List ℕ → ℕ
time_dependent_of r = word_of r 7

-- `stmts` is the count of statements, `deps` that of dependents. The variable's run of dependents begins at `first` and stays within `deps`.
unfoldable pub variable_fits : ℕ → ℕ → ℕ → List ℕ → Bool
variable_fits stmts deps first r =
    leb (name_of_variable r) most_names && leb (state_of r) 1 && leb (time_index_of r) (dep_count_of r) && eqb (first_dep_of r) first && leb (first + dep_count_of r) deps
    && leb (held_stmt_of r) stmts && leb (conditions_of r) stmts && leb (time_dependent_of r) 1

-- The runs go from `first` to `deps` without gaps.
unfoldable pub variables_fit : ℕ → ℕ → ℕ → List (List ℕ) → Bool
variables_fit stmts deps first [] = eqb first deps
variables_fit stmts deps first (r ∷ rs) = variable_fits stmts deps first r && variables_fit stmts deps (first + dep_count_of r) rs

-- Of a variable r behind one whose name plus 1 is n: it is named, and otherwise.
unfoldable pub named_apart : ℕ → List ℕ → Bool
named_apart n r = ltb 0 (name_of_variable r) && not (eqb (name_of_variable r) n)

-- No two variables have one name, and only the first, t, may be unnamed.
unfoldable pub names_differ : List (List ℕ) → Bool
names_differ [] = true
names_differ (r ∷ rs) = all (named_apart (name_of_variable r)) rs && names_differ rs

-- ---- error: kind, span, name plus 1 or 0

abbrev pub kind_of_error : List ℕ → ℕ
kind_of_error r = word_of r 0

-- The kinds that exist are 1 to `kinds`.
unfoldable pub error_fits : ℕ → List ℕ → Bool
error_fits kinds r = leb 1 (kind_of_error r) && leb (kind_of_error r) kinds && in_order (span_from r 1) && leb (word_of r 3) most_names

-- ---- the area

-- Its nodes, trees, runs and spans obey the tree file's rules, names are below 256, no two variables have one name, and every kind, fate, 0/1 field and number
-- is one that exists. A dependent is a variable's number.
unfoldable pub records_fit : ℕ → Area → Bool
records_fit kinds x =
    nodes_fit most_names x.nodes (nodes_in x.header) && rows_fit (nodes_in x.header) x.nodes (vars_in x.header) 0 x.stmts
    && variables_fit (stmts_in x.header) (deps_in x.header) 0 x.vars && names_differ x.vars && all (λ d. ltb d (vars_in x.header)) x.deps
    && all (error_fits kinds) x.errors

-- An area of the bytes b with the header h.
unfoldable pub headed_fits : Layout → ℕ → List ℕ → List ℕ → Bool
headed_fits l kinds h b = counts_fit h && sections_fit (end_at l h) b && records_fit kinds (records_at l h b)

-- Whether an area of the bytes b keeps the layout l, where errors of the kinds 1 to `kinds` exist.
unfoldable pub keeps_layout : Layout → ℕ → List ℕ → Bool
keeps_layout l kinds b = headed_fits l kinds (take l.header_length (words b)) b
