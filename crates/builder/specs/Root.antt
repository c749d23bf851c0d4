-- What a build works out of a root model, step by step: the sizes, the tables of its variables, and the parts of the area that are written.
use Rattle.std.specs.Prelude.{ℕ, ◌+◌, ◌*◌, ◌^◌, ◌≤◌, ◌<◌, ◌≡◌, false, cond, List, [], ◌++◌, map, eqb, length, take, get_or, Float}
use Rattle.functions.specs.Lists.{each, sum_of}
use Rattle.ast.specs.Tree.{File, Flat, flat_size}
use Rattle.ast.specs.Words.{bytes_of}
use Rattle.ast.specs.Bytes.{put}
use Rattle.ast.specs.Encode.{flat_nodes, encode}
use Rattle.ast.specs.Opens.{Open, file_in}
use Rattle.ast.specs.declared.sections.Sections.{Sections}
use Rattle.definitions.specs.Flatten as definition
use Rattle.ast.specs.declared.numbers.Bounds as floats
use Rattle.builder.specs.Bounding.{Floating}
use Rattle.definitions.specs.Numbers.{most_names, most_nodes, most_stmts, most_deps, most_instances, most_bytes, node_length, stmt_length, variable_length, model_cycle, self_listed_unknown, argument_beyond, over_most}
use Rattle.definitions.specs.Variables.{Error, Bounds, at, time_bounds}
use Rattle.definitions.specs.Check.{Scope}
use Rattle.definitions.specs.Flatten.{model_at, scope_of, flatten, errors_of, instances, cyclic, self_listed, overfull}
use Rattle.definitions.specs.Roles.{Role, role_of}
use Rattle.definitions.specs.Allocate.{Fate, fates_of, left_count, paired_states, count_errors}
use Rattle.definitions.specs.Answer.{Answer, answer_bytes, flat_records, variable_records}
use Rattle.definitions.specs.Build.{Result, refusal, accepted, answer_from, too_big, fitted}
use Rattle.builder.specs.Tables.{lacking_in}
use Rattle.builder.specs.VariableTables.{Listing, roster_in, Numbers}
use Rattle.builder.specs.Unfated.{unfated}
use Rattle.builder.specs.VarRecords.{unheld_records}
use Rattle.area.specs.Sections.{Small, nodes_at, stmts_at, vars_at, deps_at, area_nodes, area_stmts, area_vars, VarsAre, part}
use Rattle.builder.specs.Fating as fating
use Rattle.builder.specs.Allocating.{flats_in, Flattened, Numbered, names_in, states_in, indexes_in, rates_in, role_by, role_errors_by}
use Rattle.builder.specs.Starting.{starting_in, Righted}
use Rattle.builder.specs.Descent.{RowsAt}
use Rattle.area.specs.declared.sections.Sizes.{Sizes}
use Rattle.std.specs.Prelude as std
use Rattle.std.specs.Prelude.{Ok, Err, IfOk}
use Rattle.builder.specs.declared.refusal.Refusal.{Refusal}
use Rattle.builder.specs.declared.refusal.Refused.{Refused}
use Rattle.builder.specs.Refusals.{number_of, refused_number}
use Rattle.builder.specs.declared.extent.measure.Extent.{Extent}

-- The numbers of instances, flattened statements and flattened nodes.
pub record Measure : Type 0 where
  pub instances : ℕ
  pub stmts : ℕ
  pub nodes : ℕ

-- ---- the parts of a root model's answer

module _ (f : File) (m : ℕ) where
  abbrev pub flats_of : List Flat
  flats_of = flatten f (length f.models) m

  abbrev pub scope_at : Scope
  scope_at = scope_of f (model_at f m)

  abbrev pub time_at : Bounds
  time_at = time_bounds f.names (model_at f m).unknowns

  abbrev pub roles_at : List Role
  roles_at = map (role_of scope_at time_at) flats_of

  abbrev pub fates_at : List Fate
  fates_at = fates_of (paired_states scope_at.vars roles_at) roles_at

  abbrev pub answer_at : Answer
  answer_at = answer_from f m scope_at time_at flats_of roles_at

  -- ---- refusals 6 to 8, or 0
  unfoldable pub forbidden_of : ℕ
  forbidden_of =
      cond (cyclic f m) model_cycle
      (cond (self_listed f m) self_listed_unknown
      (cond (overfull f m) argument_beyond 0))

  -- refusal 9, or the sizes
  unfoldable pub size_of : Result Measure
  size_of =
      cond (too_big f m flats_of) (refusal over_most)
      (accepted (record { instances = instances f (length f.models) m; stmts = length flats_of; nodes = sum_of flat_size flats_of }))

  -- refusals 6 to 9, or the sizes
  unfoldable pub measure_of : Result Measure
  measure_of = cond (eqb forbidden_of 0) size_of (refusal forbidden_of)

-- Each case of the code's answers: a refusal's number, 0 where there is none, or the sizes.
unfoldable pub forbidden_as : std.Result (Unit {0}) Refusal → ℕ
forbidden_as (Err r) = number_of r
forbidden_as (Ok x) = 0

unfoldable pub measured_as : std.Result Extent Refusal → Result Measure
measured_as (Err r) = refusal (number_of r)
measured_as (Ok e) = accepted (record { instances = e.instances; stmts = e.stmts; nodes = e.nodes })

-- The instances, flattened statements and nodes of a model that is not too big.
pub record ExtentOf (f : File) (m i q n : ℕ) : Type 0 where
  pub instances : i ≡ definition.instances f (length f.models) m
  pub stmts : q ≡ length (flats_of f m)
  pub nodes : n ≡ sum_of flat_size (flats_of f m)
  pub small : too_big f m (flats_of f m) ≡ false

-- What the answer of model m is worked out from: rows for as many models as there are, and an area of the most bytes.
pub record Sources (f : List ℕ) (s : Sections) (rows : List ℕ) (m : ℕ) (area : List ℕ) : Type 0 where
  pub model : m < s.counts.models
  pub readable : RowsAt f s rows s.counts.models
  pub long : length area ≡ most_bytes

-- ---- the root's variables

-- An area with room for the variables of every model behind n nodes and q statements.
pub record VarsRoom (n q : ℕ) (b : List ℕ) : Type 0 where
  pub nodes : n ≤ most_nodes
  pub stmts : q ≤ most_stmts
  pub long : length b ≡ most_bytes

-- The variables of model m listed in an area b behind n nodes and q statements: the sizes with them, the area with their names in its records, all else as it
-- was, and the table of their numbers by name.
pub record VarsListed (f : List ℕ) (s : Sections) (m n q : ℕ) (b : List ℕ) (r : Sizes) (b' table : List ℕ) : Type 0 where
  pub listing : Listing (roster_in f s m) (names_in b' r) table
  pub nodes : r.nodes ≡ n
  pub stmts : r.stmts ≡ q
  pub deps : r.deps ≡ 0
  pub kept : VarsAre r b (area_vars b' r) b'

-- An area in which the variables' records have their names, with room for all dependents behind them.
pub record VarsNamed (f : File) (m : ℕ) (z : Sizes) (b : List ℕ) : Type 0 where
  pub small : Small z
  pub vars : z.vars ≡ length (scope_at f m).vars
  pub long : deps_at z + 4 * most_deps ≤ length b
  pub named : (v : ℕ) → v < z.vars → get_or (names_in b z) v 0 ≡ (at (scope_at f m).vars v).name

-- Variable v is the next to be written into an area, behind `done` dependents: its record has its name.
pub record VarNext (f : File) (m : ℕ) (z : Sizes) (b : List ℕ) (v done : ℕ) : Type 0 where
  pub small : Small z
  pub vars : z.vars ≡ length (scope_at f m).vars
  pub long : deps_at z + 4 * most_deps ≤ length b
  pub below : v < z.vars
  pub named : get_or (names_in b z) v 0 ≡ (at (scope_at f m).vars v).name
  pub few : done + length (at (scope_at f m).vars v).deps ≤ most_deps

-- The sizes of the answer's sections.
pub record SizesOf (f : File) (m : ℕ) (z : Sizes) : Type 0 where
  pub small : Small z
  pub nodes : z.nodes ≡ sum_of flat_size (flats_of f m)
  pub stmts : z.stmts ≡ length (flats_of f m)
  pub vars : z.vars ≡ length (scope_at f m).vars
  pub deps : z.deps ≡ length (each (λ x. x.deps) (scope_at f m).vars)

-- What is known of root model m of an open file: its variables by name, and the sizes.
pub record Known (f : List ℕ) (s : Sections) (m : ℕ) (numbers : List ℕ) (z : Sizes) : Type 0 where
  pub is_open : Open f s
  pub model : m < s.counts.models
  pub numbered : Numbers (roster_in f s m) numbers
  pub numbers_long : length numbers ≡ most_names
  pub sizes : SizesOf (file_in f s) m z

-- The same with the instances, and time's bounds as floats: what its answer is written from.
pub record Rooted (f : List ℕ) (s : Sections) (numbers : List ℕ) (m i : ℕ) (z : Sizes) (time : floats.Bounds) : Type 0 where
  pub known : Known f s m numbers z
  pub instances : i ≡ definition.instances (file_in f s) (length (file_in f s).models) m
  pub few : i ≤ most_instances
  pub timed : Floating (time_at (file_in f s) m) time

-- ---- parts of an area

-- An area with the nodes, the statements' records `rs`, the variables' records `vs` and the dependents of the answer.
pub record PartsLaid (f : File) (m : ℕ) (z : Sizes) (rs vs : List (List ℕ)) (b : List ℕ) : Type 0 where
  pub long : length b ≡ most_bytes
  pub nodes : part nodes_at (4 * node_length * z.nodes) b ≡ encode (each flat_nodes (flats_of f m))
  pub stmts : part (stmts_at z) (4 * stmt_length * z.stmts) b ≡ encode rs
  pub vars : part (vars_at z) (4 * variable_length * z.vars) b ≡ encode vs
  pub deps : part (deps_at z) (4 * z.deps) b ≡ bytes_of (each (λ x. x.deps) (scope_at f m).vars)

-- The variables laid into an area `b` behind n nodes and q statements: the sizes then, and the area with the variables' records and, behind them, their
-- dependents, all else as it was.
pub record VarsLaid (f : File) (m n q : ℕ) (b : List ℕ) (r : Sizes) (b' : List ℕ) : Type 0 where
  pub nodes : r.nodes ≡ n
  pub stmts : r.stmts ≡ q
  pub vars : r.vars ≡ length (scope_at f m).vars
  pub deps : r.deps ≡ length (each (λ x. x.deps) (scope_at f m).vars)
  pub bytes : b' ≡ put (put b (deps_at r) (bytes_of (each (λ x. x.deps) (scope_at f m).vars))) (vars_at r) (encode (unheld_records (scope_at f m).vars))

-- before fates are known, with them, and with what each variable holds
abbrev pub Unfated : File → ℕ → Sizes → List ℕ → Type 0
Unfated f m z b = PartsLaid f m z (unfated 0 (flats_of f m)) (unheld_records (scope_at f m).vars) b

abbrev pub Fated : File → ℕ → Sizes → List ℕ → Type 0
Fated f m z b = PartsLaid f m z (flat_records 0 (flats_of f m) (fates_at f m)) (unheld_records (scope_at f m).vars) b

abbrev pub Held : File → ℕ → Sizes → List ℕ → Type 0
Held f m z b = PartsLaid f m z (flat_records 0 (flats_of f m) (fates_at f m)) (variable_records (answer_at f m) 0 0 (scope_at f m).vars) b

-- ---- fates and errors over the records in an area, `numbers` having each name's variable

module _ (b : List ℕ) (z : Sizes) (numbers : List ℕ) (lower : Float) where
  unfoldable pub roles_by : List Role
  roles_by = map (role_by numbers (indexes_in b z) (rates_in b z) lower) (flats_in b z)

  unfoldable pub lacking_by : List ℕ
  lacking_by = lacking_in roles_by (states_in b z) z.vars

  -- the states that are paired
  unfoldable pub queue_by : List ℕ
  queue_by = cond (eqb (left_count roles_by) (length lacking_by)) lacking_by []

  -- the statements' records with their fates
  unfoldable pub fated_by : List (List ℕ)
  fated_by = fating.fated (area_stmts b z) (map fating.fate_pair (fates_of queue_by roles_by))

  -- the errors of root model m, where `left` statements and `states` states are left
  unfoldable pub errors_by : File → ℕ → ℕ → ℕ → List Error
  errors_by f m left states =
      errors_of f (length f.models) m ++ each (role_errors_by numbers (indexes_in b z) (rates_in b z) lower) (flats_in b z) ++ count_errors (model_at f m).span left states ++ starting_in (model_at f m).span (area_nodes b z) (area_stmts b z) (names_in b z) z.vars

-- What the errors of root model m are found from: the area with fates, and few enough errors to count.
pub record Erring (f : List ℕ) (s : Sections) (b numbers : List ℕ) (m : ℕ) (z : Sizes) : Type 0 where
  pub model : m < s.counts.models
  pub righted : Righted b z
  pub flattened : (count : ℕ) × Flattened count b z
  pub numbered : Numbered b z numbers
  pub few : length (errors_of (file_in f s) (length (file_in f s).models) m) < 2 ^ 32

-- ---- what the build of a model answers: a refusal, or the bytes used of an area

unfoldable pub answered_as : std.Result ℕ Refusal → List ℕ → Result (List ℕ)
answered_as (Err r) b = refusal (number_of r)
answered_as (Ok n) b = accepted (take n b)

unfoldable pub used_in : std.Result ℕ Refusal → ℕ
used_in (Err r) = 0
used_in (Ok n) = n

unfoldable pub bytes_in : Result Answer → Result (List ℕ)
bytes_in (refusal n) = refusal n
bytes_in (accepted a) = accepted (answer_bytes a)

-- the same where the area has room for them
unfoldable pub fitted_in : ℕ → Result (List ℕ) → Result (List ℕ)
fitted_in room (refusal n) = refusal n
fitted_in room (accepted b) = fitted room b

-- ---- what a build answers

-- in the area's first bytes
unfoldable pub written_as : std.Result ℕ Refused → List ℕ → Result (List ℕ)
written_as (Err r) b = refusal (refused_number r)
written_as (Ok n) b = accepted (take n b)

-- A build's answer `due` at the front of the area b, whatever is behind it.
pub record Stands (due : Result (List ℕ)) (r : std.Result ℕ Refused) (b : List ℕ) : Type 0 where
  pub says : written_as r b ≡ due
  pub within : IfOk r (λ n. (n ≤ length b) × (n ≤ most_bytes))

-- by its length alone
unfoldable pub said_as : std.Result ℕ Refused → Result ℕ
said_as (Err r) = refusal (refused_number r)
said_as (Ok n) = accepted n

unfoldable pub said : Result (List ℕ) → Result ℕ
said (refusal n) = refusal n
said (accepted b) = accepted (length b)
