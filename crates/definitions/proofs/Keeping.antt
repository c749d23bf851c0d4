-- The promise is kept, part by part: of flattened statements whose roles, counts and initial conditions list no error.
use mathlib.Core.Path.{◌≡◌, refl, sym, ◌∙◌, ap}
use mathlib.Core.Logic.{◌↔◌, ◌≢◌, inl, inr}
use Prim.Native.Nat.{ℕ, zero, suc, ◌+◌, ◌≤◌, ◌<◌}
use native.Mathlib.Omega.{arith}
use mathlib.Core.Bool.{Bool, true, false, cond, not, ◌&&◌}
use mathlib.Core.List.{List, [], ◌∷◌, map, cons≢nil}
use mathlib.Core.Option.{Option, none, some, some-injective}
use lib.Dec.{eqb, ltb}
use lib.ListN.{length, drop, get_or, get_elem?, length-map}
use borrow.Author.Tests.{eqb-true, eq-eqb, ltb-true}
use Rattle.functions.specs.Lists.{any, each, place, plus_one, is_empty, flag, times}
use Rattle.ast.specs.Tree.{Span, Expr, Flat, equation, rate}
use Rattle.definitions.specs.Variables.{Error, Variable, Bounds, at, is_state, no_variable, time_dependent}
use Rattle.definitions.specs.Check.{Scope, lookup}
use Rattle.definitions.specs.Roles.{Role, starts, rates, free, role_of, role_errors, takes_rate}
use Rattle.definitions.specs.Allocate.{Fate, initial, held, replaced, left_over, is_rate_of, rate_fate, fates_of, lacking, left_count, paired_states, count_errors, is_held_by, held_by, conditions, numbers_from, state_errors, held_errors, starting_errors, no_flat}
use Rattle.definitions.proofs.Lengths.{length_fates}
use Rattle.definitions.proofs.Fates.{FateOf, fate_of_lem, none_left, held_count, in_queue}
use Rattle.functions.proofs.Lists.{clash, and_both}
use Rattle.functions.proofs.Places.{each_nil, map_at, map_from, any_later, later_any, times_pos, place_found, place_at, place_exact, unless_nil}
use Rattle.definitions.specs.Promise.{IsStart, IsReplaced}
use Rattle.definitions.proofs.Roles.{starts_is, is_starts, rates_is, is_rates, rate_named}
use Rattle.definitions.proofs.ListLaws.{element_below}

-- ---- small facts

and_left : (a b : Bool) → a && b ≡ true → a ≡ true
and_left true b e = refl
and_left false b e = clash (cc)

flags : (s b : Bool) → (b ≡ true → s ≡ true) → flag b + flag (s && not b) ≡ flag s
unfolding flag
flags true true h = refl
flags true false h = refl
flags false true h = let e : false ≡ true = h refl in clash (cc)
flags false false h = refl

flag_true : (b : Bool) → 1 ≤ flag b → b ≡ true
unfolding flag
flag_true true h = refl
flag_true false h = absurd (omega arith)

count_equal : (s : Span) (left states : ℕ) → count_errors s left states ≡ [] → left ≡ states
unfolding count_errors
count_equal s left states h = eqb-true left states (go (eqb left states) (ltb left states) _ _ h)
  where
    go : (b d : Bool) (x y : Error) → cond b [] (cond d (x ∷ []) (y ∷ [])) ≡ [] → b ≡ true
    go true d x y e = refl
    go false true x y e = absurd (cons≢nil e)
    go false false x y e = absurd (cons≢nil e)

state_in : (vs : List Variable) (v : ℕ) → is_state (at vs v) ≡ true → v < length vs
unfolding at is_state no_variable is_empty
state_in [] v h = clash (cc)
state_in (x ∷ vs) zero h = omega arith
state_in (x ∷ vs) (suc v) h = omega (arith, state_in vs v h)

up_to_at : (i : ℕ) (vs : List Variable) (v : ℕ) → v < length vs → get_elem? (numbers_from i vs) v ≡ some (i + v)
unfolding numbers_from
up_to_at i [] v h = absurd (omega arith)
up_to_at i (x ∷ vs) zero h = ap some (omega arith)
up_to_at i (x ∷ vs) (suc v) h = up_to_at (suc i) vs v (omega arith) ∙ ap some (omega arith)

held_is : (v : ℕ) (f : Fate) → is_held_by v f ≡ true → f ≡ held v
unfolding is_held_by
held_is v (initial u) e = clash (cc)
held_is v (held u) e = ap held (sym (eqb-true v u e))
held_is v (replaced u) e = clash (cc)
held_is v left_over e = clash (cc)

is_held : (v : ℕ) → is_held_by v (held v) ≡ true
unfolding is_held_by
is_held v = eq-eqb v v refl

rate_is : (v : ℕ) (r : Role) → is_rate_of v r ≡ true → r ≡ rates v
unfolding is_rate_of
rate_is v (starts u) e = clash (cc)
rate_is v (rates u) e = ap rates (sym (eqb-true v u e))
rate_is v free e = clash (cc)

is_rate : (v : ℕ) → is_rate_of v (rates v) ≡ true
unfolding is_rate_of
is_rate v = eq-eqb v v refl

minus_one_lem : (o : Option ℕ) (i : ℕ) → plus_one o ≡ suc i → o ≡ some i
unfolding plus_one
minus_one_lem none i e = absurd (omega arith)
minus_one_lem (some j) i e = ap some (omega arith)

get_d_at : {A : Type 0} (xs : List A) (i : ℕ) (d x : A) → get_elem? xs i ≡ some x → get_or xs i d ≡ x
get_d_at [] i d x e = clash (cc)
get_d_at (y ∷ xs) zero d x e = some-injective _ _ e
get_d_at (y ∷ xs) (suc i) d x e = get_d_at xs i d x e

at_below : {A : Type 0} (xs : List A) (i : ℕ) → i < length xs → (x : A) × (get_elem? xs i ≡ some x)
at_below [] i h = absurd (omega arith)
at_below (y ∷ xs) zero h = (y, refl)
at_below (y ∷ xs) (suc i) h = at_below xs i (omega arith)

-- ---- of statements whose roles and counts list no error

module _ (c : Scope) (time : Bounds) (span : Span) (qs : List Flat) where
  abbrev rs : List Role
  rs = map (role_of c time) qs

  abbrev queue : List ℕ
  queue = paired_states c.vars rs

  abbrev fs : List Fate
  fs = fates_of queue rs

  pub fate_each : length fs ≡ length qs
  fate_each = length_fates queue rs ∙ length-map qs (role_of c time)

  pub held_once : (v w i : ℕ) → get_elem? fs i ≡ some (held v) → get_elem? fs i ≡ some (held w) → v ≡ w
  held_once v w i h g = cc

  module _ (hc : count_errors span (left_count rs) (length (lacking c.vars rs)) ≡ []) where
    enough : left_count rs ≡ length (lacking c.vars rs)
    enough = count_equal span _ _ hc

    queue_is : queue ≡ lacking c.vars rs
    unfolding paired_states
    queue_is = rw (eq-eqb (left_count rs) (length (lacking c.vars rs)) enough) refl

    matched : left_count rs ≡ length queue
    matched = enough ∙ ap length (sym queue_is)

    rated_state : (v : ℕ) → any (is_rate_of v) rs ≡ true → is_state (at c.vars v) ≡ true
    unfolding takes_rate
    rated_state v h =
        let (j, r, l, e, g) = any_later (is_rate_of v) rs 0 h in
        let (q, _, k) = map_from (role_of c time) qs j r e in
        and_left _ _ (rates_is c time v q (k ∙ rate_is v r g)).1

    -- a state holds one statement, another variable none
    one_each : (v : ℕ) → times (is_held_by v) fs ≡ flag (is_state (at c.vars v))
    unfolding lacking
    one_each v =
        held_count v queue rs matched
        ∙ ap (λ (l : List ℕ). flag (any (is_rate_of v) rs) + times (eqb v) l) queue_is
        ∙ ap (λ (n : ℕ). flag (any (is_rate_of v) rs) + n) (in_queue v (λ w. is_state (at c.vars w) && not (any (is_rate_of w) rs)) c.vars (λ p. state_in c.vars v (and_left _ _ p)))
        ∙ flags (is_state (at c.vars v)) (any (is_rate_of v) rs) (rated_state v)

    held_state : (v i : ℕ) → get_elem? fs i ≡ some (held v) → is_state (at c.vars v) ≡ true
    held_state v i e = flag_true _ (omega (arith, times_pos (is_held_by v) fs i (held v) e (is_held v), one_each v))

    -- a variable's record says which statement it holds
    pub record_says : (v i : ℕ) → (held_by fs v ≡ suc i) ↔ (get_elem? fs i ≡ some (held v))
    unfolding held_by place flag plus_one
    record_says v i = (
      λ h. let (j, x, l, e, g) = place_at (is_held_by v) 0 fs i (minus_one_lem _ i h) in
          ap (get_elem? fs) (omega (arith, l)) ∙ e ∙ ap some (held_is v x g),
      λ e. ap plus_one (place_exact (is_held_by v) 0 fs i (held v) (one_each v ∙ ap flag (held_state v i e)) e (is_held v)) ∙ omega arith,
    )

    pub state_holds : (v : ℕ) → is_state (at c.vars v) ≡ true → (i : ℕ) × (get_elem? fs i ≡ some (held v))
    unfolding held_by place flag plus_one
    state_holds v h = let r = place_found (is_held_by v) 0 fs 0 (one_each v ∙ ap flag h) in (r.0, (record_says v r.0).0 (ap plus_one r.1))

    pub holds_one : (v i j : ℕ) → get_elem? fs i ≡ some (held v) → get_elem? fs j ≡ some (held v) → i ≡ j
    holds_one v i j hi hj = omega (arith, (record_says v i).1 hi, (record_says v j).1 hj)

    pub other_holds_none : (v i : ℕ) → is_state (at c.vars v) ≡ false → get_elem? fs i ≡ some (held v) → ⊥
    other_holds_none v i h e = let g : is_state (at c.vars v) ≡ true = held_state v i e in clash (cc)

    -- ---- initial conditions of what is held

    module _ (hs : starting_errors span c.vars qs fs ≡ []) where
      held_clean : (v i : ℕ) (q : Flat) → get_elem? fs i ≡ some (held v) → get_elem? qs i ≡ some q → held_errors span c.vars qs fs v q ≡ []
      unfolding starting_errors state_errors held_by place
      held_clean v i q h e =
          let inside : v < length c.vars = state_in c.vars v (held_state v i h) in
          let clean : state_errors span c.vars qs fs v (place (is_held_by v) fs) ≡ [] = each_nil _ (numbers_from 0 c.vars) v v hs (up_to_at 0 c.vars v inside ∙ ap some (omega arith)) in
          ap (held_errors span c.vars qs fs v) (sym (get_d_at qs i no_flat q e)) ∙ ap (state_errors span c.vars qs fs v) (sym (minus_one_lem _ i ((record_says v i).1 h))) ∙ clean

      pub rate_starts : (v i n : ℕ) (r : Expr) (s : Span) → get_elem? fs i ≡ some (held v) → get_elem? qs i ≡ some (rate n r s) → 1 ≤ conditions fs v
      unfolding held_errors
      rate_starts v i n r s h e = ltb-true 0 _ (unless_nil _ _ (held_clean v i _ h e))

      not_rate : (v i : ℕ) (q : Flat) → get_elem? fs i ≡ some (held v) → get_elem? qs i ≡ some q → ((n : ℕ) (r : Expr) (s : Span) → q ≡ rate n r s → ⊥) → conditions fs v ≡ 0
      unfolding held_errors
      not_rate v i (equation l r s) h e never = eqb-true _ 0 (unless_nil _ _ (held_clean v i _ h e))
      not_rate v i (rate n r s) h e never = absurd (never n r s refl)

      pub other_starts_none : (v : ℕ) → is_state (at c.vars v) ≡ true → ((i n : ℕ) (r : Expr) (s : Span) → get_elem? fs i ≡ some (held v) → get_elem? qs i ≡ some (rate n r s) → ⊥)
          → conditions fs v ≡ 0
      other_starts_none v h never =
          let (i, g) = state_holds v h in
          let (q, e) = at_below qs i (omega (arith, element_below fs i (held v) g, fate_each)) in
          not_rate v i q g e (λ n r s k. never i n r s g (e ∙ ap some k))

    -- ---- fates

    pub has_fate : (i : ℕ) (q : Flat) → get_elem? qs i ≡ some q → (f : Fate) × (get_elem? fs i ≡ some f) × (f ≢ left_over)
    has_fate i q e =
        let r = fate_of_lem queue rs i (role_of c time q) (map_at (role_of c time) qs i q e) in
        (r.0, r.1, λ g. none_left queue rs matched i (r.1 ∙ ap some g))

  -- a fate says the role
  initial_role : (later : List Role) (r : Role) (f : Fate) (v : ℕ) → FateOf later r f → f ≡ initial v → r ≡ starts v
  unfolding rate_fate
  initial_role later (starts u) f v h e = cc
  initial_role later (rates u) f v h e = go (any (is_rate_of u) later) (sym h ∙ e)
    where
      go : (b : Bool) → rate_fate b u ≡ initial v → rates u ≡ starts v
      go true e = clash (cc)
      go false e = clash (cc)
  initial_role later free f v (inl h) e = clash (cc)
  initial_role later free f v (inr h) e = let g : held h.0 ≡ initial v = sym h.1 ∙ e in clash (cc)

  pub is_initial : (v i : ℕ) (q : Flat) → get_elem? qs i ≡ some q → (get_elem? fs i ≡ some (initial v)) ↔ IsStart c time v q
  is_initial v i q e =
      let (f, at_i, fits) = fate_of_lem queue rs i (role_of c time q) (map_at (role_of c time) qs i q e) in (
        λ h. starts_is c time v q (initial_role (drop (suc i) rs) (role_of c time q) f v fits (some-injective _ _ (sym at_i ∙ h))),
        λ x. let r = fate_of_lem queue rs i (starts v) (map_at (role_of c time) qs i q e ∙ ap some (is_starts c time v q x)) in r.1 ∙ ap some r.2,
      )

  replaced_role : (later : List Role) (r : Role) (f : Fate) (v : ℕ) → FateOf later r f → f ≡ replaced v → (r ≡ rates v) × (any (is_rate_of v) later ≡ true)
  unfolding rate_fate
  replaced_role later (starts u) f v h e = clash (cc)
  replaced_role later (rates u) f v h e = go (any (is_rate_of u) later) refl (sym h ∙ e)
    where
      go : (b : Bool) → any (is_rate_of u) later ≡ b → rate_fate b u ≡ replaced v → (rates u ≡ rates v) × (any (is_rate_of v) later ≡ true)
      go true g e = let d : u ≡ v = cc in (ap rates d, rw d at g)
      go false g e = clash (cc)
  replaced_role later free f v (inl h) e = clash (cc)
  replaced_role later free f v (inr h) e = let g : held h.0 ≡ replaced v = sym h.1 ∙ e in clash (cc)

  -- a rate equation that goes to u is held by no other
  held_role : (later : List Role) (u v : ℕ) → rate_fate (any (is_rate_of u) later) u ≡ held v → u ≡ v
  unfolding rate_fate
  held_role later u v e = go (any (is_rate_of u) later) e
    where
      go : (b : Bool) → rate_fate b u ≡ held v → u ≡ v
      go true e = clash (cc)
      go false e = cc

  module _ (he : each (role_errors c time) qs ≡ []) where
    -- a rate equation that is held is held by the state that it names
    pub rate_held_by_name : (v i n : ℕ) (r : Expr) (s : Span) → get_elem? fs i ≡ some (held v) → get_elem? qs i ≡ some (rate n r s)
        → (lookup c n ≡ some v) × (time_dependent c.vars v ≡ true)
    unfolding takes_rate
    rate_held_by_name v i n r s h e =
        let (u, role, names, takes) = rate_named c time n r s (each_nil _ qs i (rate n r s) he e) in
        let (f, at_i, fits) = fate_of_lem queue rs i (rates u) (map_at (role_of c time) qs i (rate n r s) e ∙ ap some role) in
        let same : u ≡ v = held_role (drop (suc i) rs) u v (sym fits ∙ some-injective _ _ (sym at_i ∙ h)) in
        (names ∙ ap some same, rw same at (and_both (is_state (at c.vars u)) _ takes).1)

    pub is_replaced : (v i : ℕ) (q : Flat) → get_elem? qs i ≡ some q → (get_elem? fs i ≡ some (replaced v)) ↔ IsReplaced c v qs i q
    unfolding rate_fate takes_rate
    is_replaced v i q e =
        let (f, at_i, fits) = fate_of_lem queue rs i (role_of c time q) (map_at (role_of c time) qs i q e) in (
          λ h.
              let (role, more) = replaced_role (drop (suc i) rs) (role_of c time q) f v fits (some-injective _ _ (sym at_i ∙ h)) in
              let (j, r, l, e₁, g) = any_later (is_rate_of v) rs (suc i) more in
              let (q₁, e₂, k) = map_from (role_of c time) qs j r e₁ in
              let (this, takes) = rates_is c time v q role in
              record { this = this; state = and_left _ _ takes; later = j; behind = l; stmt = q₁; there = e₂; that = (rates_is c time v q₁ (k ∙ rate_is v r g)).0 },
          λ x.
              let role : role_of c time q ≡ rates v = is_rates c time v q x.this (each_nil _ qs i q he e) in
              let role₁ : role_of c time x.stmt ≡ rates v = is_rates c time v x.stmt x.that (each_nil _ qs x.later x.stmt he x.there) in
              let more : any (is_rate_of v) (drop (suc i) rs) ≡ true = later_any (is_rate_of v) rs (suc i) x.later _ x.behind (map_at (role_of c time) qs x.later x.stmt x.there) (ap (is_rate_of v) role₁ ∙ is_rate v) in
              let r = fate_of_lem queue rs i (rates v) (map_at (role_of c time) qs i q e ∙ ap some role) in
              r.1 ∙ ap some (r.2 ∙ ap (λ b. rate_fate b v) more),
        )
