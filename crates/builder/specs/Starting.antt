-- Errors 16 and 17 over the records of an area: `rs` are the statements' records with their fates, `ns` the nodes, `model` is the root's span.
use Rattle.std.specs.Prelude.{◌≡◌, ℕ, zero, suc, ◌-◌, ◌≤◌, ◌<◌, ◌+◌, ◌^◌, cond, List, [], ◌∷◌, ◌++◌, eqb, length, get_or}
use Rattle.std.proofs.Math.Option.{Option, none, some}
use Rattle.std.specs.declared.option.Option as answer
use Rattle.std.specs.declared.option.Option.TheVariants.{None, Some}
use Rattle.functions.specs.Lists.{place, plus_one, times}
use Rattle.ast.specs.Tree.{Span}
use Rattle.ast.specs.Opens.{Open}
use Rattle.ast.specs.declared.sections.Sections.{Sections}
use Rattle.ast.specs.Words.{word_of}
use Rattle.ast.specs.Nodes.{span_at}
use Rattle.definitions.specs.Numbers.{initial_fate, held_fate, no_initial_condition, algebraic_initial_condition}
use Rattle.definitions.specs.Variables.{Error, error}
use Rattle.area.specs.Fields.{stmt_right, var_held, var_initial}
use Rattle.area.specs.Sections.{Small, deps_at, area_stmts, area_stmt, area_vars, column}
use Rattle.builder.specs.Fating.{is_fated}
use Rattle.area.specs.declared.sections.Sizes.{Sizes}

-- a place that the code found, or none
unfoldable pub place_as : answer.Option ℕ → Option ℕ
place_as None = none
place_as (Some i) = some i

-- the span of the right side of statement i
unfoldable pub right_span_in : List (List ℕ) → List (List ℕ) → ℕ → Span
right_span_in ns rs i = span_at ns (word_of (get_or rs i []) stmt_right)

module _ (model : Span) (ns rs : List (List ℕ)) where
  -- of a variable by its name plus 1, the statement it holds plus 1 or 0, and its first initial condition plus 1 or 0
  unfoldable pub held_errors_in : ℕ → ℕ → ℕ → List Error
  held_errors_in name held first =
      cond (eqb held 0) []
      (cond (eqb (word_of (get_or rs (held - 1) []) 0) 2) (cond (eqb first 0) (error no_initial_condition model name ∷ []) [])
      (cond (eqb first 0) [] (error algebraic_initial_condition (right_span_in ns rs (first - 1)) name ∷ [])))

  -- of variable v
  unfoldable pub state_errors_in : ℕ → ℕ → List Error
  state_errors_in name v = held_errors_in name (plus_one (place (is_fated 2 v) rs)) (plus_one (place (is_fated 1 v) rs))

  -- of the first n variables
  unfoldable pub starting_in : List ℕ → ℕ → List Error
  starting_in names zero = []
  starting_in names (suc n) = starting_in names n ++ state_errors_in (get_or names n 0) n

-- An area with the variables' records, where each statement's right side is a node and each variable's record says what it holds: the statement plus 1 or 0, and how
-- many initial conditions it has.
pub record Righted (b : List ℕ) (z : Sizes) : Type 0 where
  pub small : Small z
  pub long : deps_at z ≤ length b
  pub right : (i : ℕ) → i < z.stmts → word_of (area_stmt b z i) stmt_right < z.nodes
  pub held : (v : ℕ) → v < z.vars → get_or (column var_held (area_vars b z)) v 0 ≡ plus_one (place (is_fated held_fate v) (area_stmts b z))
  pub initial : (v : ℕ) → v < z.vars → get_or (column var_initial (area_vars b z)) v 0 ≡ times (is_fated initial_fate v) (area_stmts b z)

-- What errors 16 and 17 of root model m are found from, so few that they can be counted behind `count` errors: one for each variable at the most.
pub record Conditions (f : List ℕ) (s : Sections) (m : ℕ) (b : List ℕ) (z : Sizes) (count : ℕ) : Type 0 where
  pub opened : Open f s
  pub model : m < s.counts.models
  pub righted : Righted b z
  pub few : count + z.vars < 2 ^ 40
