-- The sections of an answer area behind its header: nodes, statements, variables, dependents, errors, without gaps.
use Rattle.std.specs.Prelude.{ℕ, ◌+◌, ◌*◌, ◌≤◌, ◌≡◌, List, [], map, length, take, drop, get_or, set}
use Rattle.ast.specs.Words.{section, word_of}
use Rattle.definitions.specs.Numbers.{most_nodes, most_stmts, most_variables, most_deps, header_length, node_length, stmt_length, variable_length, dep_length}
use Rattle.area.specs.declared.sections.Sizes.{Sizes}

-- no section beyond its most
pub record Small (z : Sizes) : Type 0 where
  pub nodes : z.nodes ≤ most_nodes
  pub stmts : z.stmts ≤ most_stmts
  pub vars : z.vars ≤ most_variables
  pub deps : z.deps ≤ most_deps

-- Sizes r with as many variables as z or more, and all else as many as z.
pub record Grown (z r : Sizes) : Type 0 where
  pub nodes : r.nodes ≡ z.nodes
  pub stmts : r.stmts ≡ z.stmts
  pub vars : z.vars ≤ r.vars
  pub deps : r.deps ≡ z.deps

-- ---- the byte at which each section begins

abbrev pub nodes_at : ℕ
nodes_at = 4 * header_length

-- behind n nodes
abbrev pub nodes_end : ℕ → ℕ
nodes_end n = nodes_at + 4 * node_length * n

unfoldable pub stmts_at : Sizes → ℕ
stmts_at z = nodes_end z.nodes

unfoldable pub vars_at : Sizes → ℕ
vars_at z = stmts_at z + 4 * stmt_length * z.stmts

unfoldable pub deps_at : Sizes → ℕ
deps_at z = vars_at z + 4 * variable_length * z.vars

unfoldable pub errors_at : Sizes → ℕ
errors_at z = deps_at z + 4 * dep_length * z.deps

-- ---- the records of a section

module _ (b : List ℕ) (z : Sizes) where
  abbrev pub area_nodes : List (List ℕ)
  area_nodes = section node_length z.nodes nodes_at b

  abbrev pub area_stmts : List (List ℕ)
  area_stmts = section stmt_length z.stmts (stmts_at z) b

  abbrev pub area_stmt : ℕ → List ℕ
  area_stmt i = get_or area_stmts i []

  abbrev pub area_vars : List (List ℕ)
  area_vars = section variable_length z.vars (vars_at z) b

-- The records with x as word k of record i.
unfoldable pub with_word : List (List ℕ) → ℕ → ℕ → ℕ → List (List ℕ)
with_word rs i k x = set rs i (set (get_or rs i []) k x)

-- The area b with these records of variables, and all else as it was, is b'.
pub record VarsAre (z : Sizes) (b : List ℕ) (rs : List (List ℕ)) (b' : List ℕ) : Type 0 where
  pub front : take (vars_at z) b' ≡ take (vars_at z) b
  pub behind : drop (deps_at z) b' ≡ drop (deps_at z) b
  pub long : length b' ≡ length b
  pub records : area_vars b' z ≡ rs

-- word k of each record
unfoldable pub column : ℕ → List (List ℕ) → List ℕ
column k rs = map (λ r. word_of r k) rs

-- ---- n bytes from a place on

unfoldable pub part : ℕ → ℕ → List ℕ → List ℕ
part at n b = take n (drop at b)
