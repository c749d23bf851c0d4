-- What each flattened statement of an answer's area asks for, by tables of the root's variables.
use Rattle.std.specs.Prelude.{ℕ, zero, suc, ◌+◌, ◌-◌, ◌*◌, ◌^◌, ◌≤◌, ◌<◌, ◌≡◌, ◌⊎◌, Bool, true, false, cond, ◌&&◌, List, [], ◌∷◌, map, eqb, leb, length, get_or, Float}
use Rattle.std.proofs.Math.Option.{Option, none, some}
use Rattle.std.specs.Float.Ieee.{eq}
use Rattle.functions.specs.Lists.{unless, plus_one, flag, ◌>>=◌}
use Rattle.ast.specs.Tree.{Span, Expr, name, number, binary, unary, call, Args, Flat, equation, rate, count}
use Rattle.ast.specs.Words.{word_of, span_from}
use Rattle.ast.specs.Numbers.{number_of}
use Rattle.ast.specs.Nodes.{kind_at, name_at, op_at, size_at, span_at, bits_at, tree_at, is_expr, nodes_fit}
use Rattle.definitions.specs.Numbers.{most_names, stmt_length, call_kind, equation_kind, rate_kind, name_not_found, wrong_start, rate_invalid}
use Rattle.definitions.specs.Variables.{Error, error, Bounds, at, time_index}
use Rattle.definitions.specs.Check.{Scope, lookup}
use Rattle.definitions.specs.Roles.{Start, arg_at, number_in, Role, starts, rates, free, takes_rate}
use Rattle.definitions.specs.Allocate.{is_rate_of, is_free}
use Rattle.area.specs.Fields.{stmt_kind, stmt_name, stmt_left, stmt_right, stmt_span, var_name, var_state, var_time_index, var_timed}
use Rattle.area.specs.Sections.{Small, nodes_end, stmts_at, deps_at, area_nodes, area_stmts, area_stmt, area_vars, column}
use Rattle.area.specs.declared.sections.Sizes.{Sizes}
use Rattle.std.specs.declared.option.Option as answer
use Rattle.std.specs.declared.option.Option.TheVariants.{None, Some}
use Rattle.builder.specs.declared.allocation.roles.Role as code
use Rattle.builder.specs.declared.allocation.roles.Role.TheVariants.{Neither, Initial, Rate}
use Rattle.builder.specs.declared.allocation.roles.Start as found
use Rattle.builder.specs.declared.allocation.roles.Start.TheVariants.{Short, Number}

-- ---- the statements of an area: kind (1 for an equation, 2 for a rate equation), name, left top, right top, span, fate, variable

unfoldable pub flat_at : List (List ℕ) → List ℕ → Flat
flat_at ns r =
    cond (eqb (word_of r stmt_kind) equation_kind) (equation (tree_at ns (word_of r stmt_left)) (tree_at ns (word_of r stmt_right)) (span_from r stmt_span))
    (rate (word_of r stmt_name) (tree_at ns (word_of r stmt_right)) (span_from r stmt_span))

module _ (b : List ℕ) (z : Sizes) where
  -- statement i, and all of them
  unfoldable pub flat_in : ℕ → Flat
  flat_in i = flat_at (area_nodes b z) (area_stmt b z i)

  unfoldable pub flats_in : List Flat
  flats_in = map (flat_at (area_nodes b z)) (area_stmts b z)

-- An area with the nodes and statements of a flattened model, where there are `names` names.
pub record Flattened (names : ℕ) (b : List ℕ) (z : Sizes) : Type 0 where
  pub long : nodes_end z.nodes + 4 * stmt_length * z.stmts ≤ length b
  pub small : Small z
  pub few : names ≤ most_names
  pub nodes : nodes_fit names (area_nodes b z) z.nodes ≡ true
  pub kind : (i : ℕ) → i < z.stmts → (word_of (area_stmt b z i) stmt_kind ≡ equation_kind) ⊎ (word_of (area_stmt b z i) stmt_kind ≡ rate_kind)
  pub right : (i : ℕ) → i < z.stmts → (word_of (area_stmt b z i) stmt_right < z.nodes) × (is_expr (area_nodes b z) (word_of (area_stmt b z i) stmt_right) ≡ true)
  pub left : (i : ℕ) → i < z.stmts → word_of (area_stmt b z i) stmt_kind ≡ equation_kind → (word_of (area_stmt b z i) stmt_left < z.nodes) × (is_expr (area_nodes b z) (word_of (area_stmt b z i) stmt_left) ≡ true)
  pub name : (i : ℕ) → i < z.stmts → word_of (area_stmt b z i) stmt_kind ≡ rate_kind → word_of (area_stmt b z i) stmt_name < names

-- ---- the variables of an area by number

module _ (b : List ℕ) (z : Sizes) where
  -- names plus 1; 1 for a state; time indexes plus 1 or 0
  abbrev pub names_in : List ℕ
  names_in = column var_name (area_vars b z)

  abbrev pub states_in : List ℕ
  states_in = column var_state (area_vars b z)

  abbrev pub indexes_in : List ℕ
  indexes_in = column var_time_index (area_vars b z)

  -- 1 for a variable that a rate equation may go to: a time-dependent state
  unfoldable pub rates_in : List ℕ
  rates_in = map (λ r. flag (eqb (word_of r var_state) 1 && eqb (word_of r var_timed) 1)) (area_vars b z)

-- ---- tables: `numbers` has each name's variable number plus 1 or 0, `indexes` each variable's time index plus 1 or 0, `rates` 1 for each
-- variable that a rate equation may go to; `lower` is time's lower bound

-- one less than an entry, and none for 0
unfoldable pub less_one : ℕ → Option ℕ
less_one zero = none
less_one (suc n) = some n

unfoldable pub entry_by : List ℕ → ℕ → Option ℕ
entry_by table n = less_one (get_or table n 0)

-- a table of numbers that is long enough, each entry a variable's whose record the area has
pub record Numbered (b : List ℕ) (z : Sizes) (numbers : List ℕ) : Type 0 where
  pub names : most_names ≤ length numbers
  pub vars : deps_at z ≤ length b
  pub entries : (n : ℕ) → n < most_names → get_or numbers n 0 ≤ z.vars

module _ (numbers indexes : List ℕ) where
  -- A left side that is itself a call by a variable's name with a number in time's place.
  unfoldable pub start_by : Expr → Option Start
  start_by (name n s) = none
  start_by (number b s) = none
  start_by (binary o l r s) = none
  start_by (unary o e s) = none
  start_by (call f a s) = do
    v ← entry_by numbers f
    i ← entry_by indexes v
    (e, z) ← arg_at i a
    b ← number_in e
    some (record { variable = v; caller = f; bits = b; span = z })

  -- Refusal 10: a left side that is a call with too few arguments to reach its variable's time index.
  unfoldable pub few_for : Args → Option ℕ → Bool
  few_for a none = false
  few_for a (some i) = leb (count a) i

  unfoldable pub short_call_by : Args → Option ℕ → Bool
  short_call_by a none = false
  short_call_by a (some v) = few_for a (entry_by indexes v)

  unfoldable pub short_left_by : Expr → Bool
  short_left_by (name n s) = false
  short_left_by (number b s) = false
  short_left_by (binary o l r s) = false
  short_left_by (unary o e s) = false
  short_left_by (call f a s) = short_call_by a (entry_by numbers f)

  unfoldable pub short_by : Flat → Bool
  short_by (equation l r s) = short_left_by l
  short_by (rate n r s) = false

-- Each of the code's roles.
unfoldable pub role_as : code.Role → Role
role_as Neither = free
role_as (Initial v) = starts v
role_as (Rate v) = rates v

-- A role whose variable's number fits in 16 bits.
unfoldable pub Narrow : code.Role → Type 0
Narrow Neither = Unit {0}
Narrow (Initial v) = v < 2 ^ 16
Narrow (Rate v) = v < 2 ^ 16

-- Whether a role is an initial condition of v,
unfoldable pub is_start_of : ℕ → Role → Bool
is_start_of v (starts u) = eqb v u
is_start_of v (rates u) = false
is_start_of v free = false

-- and whether two are the same.
unfoldable pub is_role : Role → Role → Bool
is_role (starts v) other = is_start_of v other
is_role (rates v) other = is_rate_of v other
is_role free other = is_free other

unfoldable pub start_role_by : Float → Option Start → Role
start_role_by lower none = free
start_role_by lower (some x) = cond (eq (number_of x.bits) lower) (starts x.variable) free

unfoldable pub start_errors_by : Float → Option Start → List Error
start_errors_by lower none = []
start_errors_by lower (some x) = unless (eq (number_of x.bits) lower) (error wrong_start x.span (suc x.caller))

unfoldable pub rate_role_by : List ℕ → Option ℕ → Role
rate_role_by table none = free
rate_role_by table (some v) = cond (eqb (get_or table v 0) 1) (rates v) free

unfoldable pub rate_errors_by : List ℕ → ℕ → Span → Option ℕ → List Error
rate_errors_by table n s none = error name_not_found s (suc n) ∷ []
rate_errors_by table n s (some v) = unless (eqb (get_or table v 0) 1) (error rate_invalid s (suc n))

module _ (numbers indexes table : List ℕ) (lower : Float) where
  unfoldable pub role_by : Flat → Role
  role_by (equation l r s) = start_role_by lower (start_by numbers indexes l)
  role_by (rate n r s) = rate_role_by table (entry_by numbers n)

  unfoldable pub role_errors_by : Flat → List Error
  role_errors_by (equation l r s) = start_errors_by lower (start_by numbers indexes l)
  role_errors_by (rate n r s) = rate_errors_by table n s (entry_by numbers n)

-- The tables are those of a scope and of time's bounds.
pub record Agree (c : Scope) (time : Bounds) (numbers indexes rates : List ℕ) (lower : Float) : Type 0 where
  pub number : (n : ℕ) → n < length c.names → get_or numbers n 0 ≡ plus_one (lookup c n)
  pub index : (v : ℕ) → v < length c.vars → get_or indexes v 0 ≡ plus_one (time_index (at c.vars v))
  pub rate : (v : ℕ) → v < length c.vars → get_or rates v 0 ≡ flag (takes_rate c v)
  pub low : lower ≡ number_of time.lower

-- ---- the code's answer for a left side

module _ (ns : List (List ℕ)) where
  -- the node of argument number k, of c arguments directly before node `end`
  unfoldable pub arg_node : ℕ → ℕ → ℕ → ℕ
  arg_node k end zero = 0
  arg_node k end (suc c) = cond (eqb k c) (end - 1) (arg_node k (end - size_at ns (end - 1)) c)

  -- what each answer is of a call by name f: none, one too short, or a variable and the node of the argument whose expression is the number
  unfoldable pub found_start : ℕ → answer.Option found.Start → Option Start
  found_start f None = none
  found_start f (Some Short) = none
  found_start f (Some (Number v a)) = some (record { variable = v; caller = f; bits = bits_at ns (a - 1); span = span_at ns a })

  -- the answer for argument node a of a call by variable v
  unfoldable pub at_arg : ℕ → ℕ → answer.Option found.Start
  at_arg v a = cond (eqb (kind_at ns (a - 1)) 2) (Some (Number v a)) None

  -- the answer for the call at node i by variable v, by v's time index
  unfoldable pub at_index : ℕ → ℕ → Option ℕ → answer.Option found.Start
  at_index i v none = None
  at_index i v (some k) = cond (leb (op_at ns i) k) (Some Short) (at_arg v (arg_node k i (op_at ns i)))

  module _ (numbers indexes : List ℕ) where
    -- by its variable
    unfoldable pub at_variable : ℕ → Option ℕ → answer.Option found.Start
    at_variable i none = None
    at_variable i (some v) = at_index i v (entry_by indexes v)

    -- the answer for node i
    unfoldable pub start_at : ℕ → answer.Option found.Start
    start_at i = cond (eqb (kind_at ns i) call_kind) (at_variable i (entry_by numbers (name_at ns i))) None

unfoldable pub is_short : answer.Option found.Start → Bool
is_short None = false
is_short (Some Short) = true
is_short (Some (Number v a)) = false

-- an answer whose variable and nodes are there
unfoldable pub StartFits : Sizes → answer.Option found.Start → Type 0
StartFits z None = Unit {0}
StartFits z (Some Short) = Unit {0}
StartFits z (Some (Number v a)) = (v < z.vars) × (1 ≤ a) × (a < z.nodes)

-- an answer with a number is of a call, whose name there is
unfoldable pub CallFits : List (List ℕ) → ℕ → answer.Option found.Start → Type 0
CallFits ns i None = Unit {0}
CallFits ns i (Some Short) = Unit {0}
CallFits ns i (Some (Number v a)) = name_at ns i < most_names

module _ (b : List ℕ) (z : Sizes) where
  -- A call at a node of a flattened model's area, which has an argument number i.
  pub record ArgIn (call i : ℕ) : Type 0 where
    pub flattened : (names : ℕ) × Flattened names b z
    pub within : call < z.nodes
    pub kind : kind_at (area_nodes b z) call ≡ call_kind
    pub few : i < op_at (area_nodes b z) call

  -- An argument's node, behind its expression's, and the node of its call, whose name there is.
  pub record NumberIn (arg call : ℕ) : Type 0 where
    pub small : Small z
    pub long : stmts_at z ≤ length b
    pub behind : 1 ≤ arg
    pub arg_within : arg < z.nodes
    pub within : call < z.nodes
    pub named : name_at (area_nodes b z) call < most_names

  -- The node of a left side, and an answer for it that fits.
  pub record StartIn (call : ℕ) (start : answer.Option found.Start) : Type 0 where
    pub small : Small z
    pub long : stmts_at z ≤ length b
    pub within : call < z.nodes
    pub fits : StartFits z start
    pub calls : CallFits (area_nodes b z) call start
