-- allocate_stmts: each flattened statement's fate, which variable holds which statement, and the errors 14 to 17.
use Rattle.std.specs.Prelude.{ℕ, suc, Bool, true, false, cond, not, ◌&&◌, List, [], ◌∷◌, eqb, ltb, length, get_or}
use Rattle.std.proofs.Math.Option.{Option, none, some}
use Rattle.functions.specs.Lists.{any, keep, place, each, unless, plus_one}
use Rattle.ast.specs.Tree.{Span, Expr, name, number, binary, unary, call, Flat, equation, rate}
use Rattle.definitions.specs.Numbers.{underdetermined, overdetermined, no_initial_condition, algebraic_initial_condition}
use Rattle.definitions.specs.Variables.{Error, error, Variable, at, is_state}
use Rattle.definitions.specs.Roles.{Role, starts, rates, free}

-- ---- fates, from the roles alone

-- Fate: of a variable an initial condition, held or replaced; or left over.
pub data Fate : Type 0 where
  initial : ℕ → Fate
  held : ℕ → Fate
  replaced : ℕ → Fate
  left_over : Fate

unfoldable pub is_rate_of : ℕ → Role → Bool
is_rate_of v (starts u) = false
is_rate_of v (rates u) = eqb v u
is_rate_of v free = false

-- The statements that are left: those with errors 5, 12 and 13 among them.
unfoldable pub is_free : Role → Bool
is_free (starts u) = false
is_free (rates u) = false
is_free free = true

-- The state holds the last rate equation that goes to it, earlier ones are replaced: whether a later one goes to v.
unfoldable pub rate_fate : Bool → ℕ → Fate
rate_fate true v = replaced v
rate_fate false v = held v

-- `queue` are the states that the statements left are paired with, in order.
unfoldable pub fates_of : List ℕ → List Role → List Fate
fates_of queue [] = []
fates_of queue (starts v ∷ rs) = initial v ∷ fates_of queue rs
fates_of queue (rates v ∷ rs) = rate_fate (any (is_rate_of v) rs) v ∷ fates_of queue rs
fates_of [] (free ∷ rs) = left_over ∷ fates_of [] rs
fates_of (v ∷ queue) (free ∷ rs) = held v ∷ fates_of queue rs

-- ---- pairing

-- The variables' numbers, from i on.
unfoldable pub numbers_from : ℕ → List Variable → List ℕ
numbers_from i [] = []
numbers_from i (v ∷ vs) = i ∷ numbers_from (suc i) vs

-- The states lacking an equation: no rate equation goes to them.
unfoldable pub lacking : List Variable → List Role → List ℕ
lacking vs rs = keep (λ v. is_state (at vs v) && not (any (is_rate_of v) rs)) (numbers_from 0 vs)

unfoldable pub left_count : List Role → ℕ
left_count rs = length (keep is_free rs)

-- If as many statements are left as states lacking an equation, they are paired in order; otherwise none is paired,
unfoldable pub paired_states : List Variable → List Role → List ℕ
paired_states vs rs = cond (eqb (left_count rs) (length (lacking vs rs))) (lacking vs rs) []

-- and 14 or 15 is listed.
unfoldable pub count_errors : Span → ℕ → ℕ → List Error
count_errors s left states = cond (eqb left states) [] (cond (ltb left states) (error underdetermined s 0 ∷ []) (error overdetermined s 0 ∷ []))

-- ---- what a variable has

unfoldable pub is_held_by : ℕ → Fate → Bool
is_held_by v (initial u) = false
is_held_by v (held u) = eqb v u
is_held_by v (replaced u) = false
is_held_by v left_over = false

unfoldable pub is_initial_of : ℕ → Fate → Bool
is_initial_of v (initial u) = eqb v u
is_initial_of v (held u) = false
is_initial_of v (replaced u) = false
is_initial_of v left_over = false

-- Held statement plus 1, or 0.
unfoldable pub held_by : List Fate → ℕ → ℕ
held_by fs v = plus_one (place (is_held_by v) fs)

-- The number of its initial conditions.
unfoldable pub conditions : List Fate → ℕ → ℕ
conditions fs v = length (keep (is_initial_of v) fs)

-- ---- errors 16 and 17

unfoldable pub expr_span : Expr → Span
expr_span (name n s) = s
expr_span (number b s) = s
expr_span (binary o l r s) = s
expr_span (unary o e s) = s
expr_span (call f a s) = s

unfoldable pub right_span : Flat → Span
right_span (equation l r s) = expr_span r
right_span (rate n r s) = expr_span r

unfoldable pub no_flat : Flat
no_flat = rate 0 (name 0 (record { from = 0; to = 0 })) (record { from = 0; to = 0 })

-- The span of a statement's right side, by the statement's number.
unfoldable pub right_span_at : List Flat → Option ℕ → Span
right_span_at qs none = right_span no_flat
right_span_at qs (some i) = right_span (get_or qs i no_flat)

-- `model` is the root's span.
module _ (model : Span) (vs : List Variable) (qs : List Flat) (fs : List Fate) where
  -- 16: no initial condition on a state that holds a rate equation, its own or a paired one, time-dependent or not.
  -- 17: one on an algebraic state, as every state holding an equation of kind 1 is, at its first condition's right side.
  unfoldable pub held_errors : ℕ → Flat → List Error
  held_errors v (equation l r s) =
      unless (eqb (conditions fs v) 0) (error algebraic_initial_condition (right_span_at qs (place (is_initial_of v) fs)) (at vs v).name)
  held_errors v (rate n r s) = unless (ltb 0 (conditions fs v)) (error no_initial_condition model (at vs v).name)

  unfoldable pub state_errors : ℕ → Option ℕ → List Error
  state_errors v none = []
  state_errors v (some i) = held_errors v (get_or qs i no_flat)

  -- Of the variables in order. Only a state holds a statement.
  unfoldable pub starting_errors : List Error
  starting_errors = each (λ v. state_errors v (place (is_held_by v) fs)) (numbers_from 0 vs)
