-- The dependents that were written, read back by their starts: those of each variable of the definitions.
use mathlib.Core.Path.{◌≡◌, refl, ap, ◌∙◌}
use mathlib.Core.Bool.{Bool, true, false, cond, ◌||◌}
use mathlib.Core.List.{List, [], ◌∷◌, ◌++◌}
use mathlib.Core.Option.{some}
use Prim.Native.Nat.{ℕ, zero, suc, ◌+◌, ◌≤◌, ◌<◌}
use native.Mathlib.Omega.{arith}
use borrow.Author.Tests.{lt-ltb}
use lib.Dec.{eqb, ltb}
use lib.ListN.{length, get_or, length-map}
use Rattle.functions.specs.Lists.{each, any, all, place_from, place, to_list, reaches}
use Rattle.functions.proofs.Lists.{and_both}
use Rattle.ast.specs.Tree.{Unknown}
use Rattle.definitions.specs.Variables.{Variable, number_of, kept_deps, variable_names, variable, variables_of, no_variable, at}
use Rattle.builder.proofs.laws.Timing.{any_alike}
use Rattle.definitions.proofs.ListLaws.{get_d_map}

-- ---- a kept dependent is a variable

module _ (p : ℕ → Bool) where
  all_append : (xs ys : List ℕ) → all p xs ≡ true → all p ys ≡ true → all p (xs ++ ys) ≡ true
  unfolding all
  all_append [] ys h g = g
  all_append (x ∷ xs) ys h g = let (a, b) = and_both (p x) _ h in rw (a, all_append xs ys b g)

  all_each : {A : Type 0} (g : A → List ℕ) (xs : List A) → ((x : A) → all p (g x) ≡ true) → all p (each g xs) ≡ true
  unfolding all each
  all_each g [] h = refl
  all_each g (x ∷ xs) h = all_append (g x) (each g xs) (h x) (all_each g xs h)

place_below : (p : ℕ → Bool) (n k : ℕ) (xs : List ℕ) → k + length xs ≤ n → all (λ d. ltb d n) (to_list (place_from k p xs)) ≡ true
unfolding place_from to_list all
place_below p n k [] h = refl
place_below p n k (x ∷ xs) h = go (p x) (place_below p n (suc k) xs (omega arith))
  where
    go : (b : Bool) → all (λ d. ltb d n) (to_list (place_from (suc k) p xs)) ≡ true → all (λ d. ltb d n) (to_list (cond b (some k) (place_from (suc k) p xs))) ≡ true
    go true g = rw (lt-ltb k n (omega arith))
    go false g = g

pub kept_below : (vs : List ℕ) (us : List Unknown) (v : ℕ) → all (λ d. ltb d (length vs)) (kept_deps vs us v) ≡ true
unfolding kept_deps number_of place all
kept_below vs us v =
    let p : ℕ → Bool = λ d. ltb d (length vs) in
    all_each p (λ u. cond (eqb (suc u.name) v) (each (λ d. to_list (number_of vs d)) u.deps) []) us
    (λ u. go (eqb (suc u.name) v) (each (λ d. to_list (number_of vs d)) u.deps)
    (all_each p (λ d. to_list (number_of vs d)) u.deps (λ d. place_below (eqb (suc d)) (length vs) 0 vs (omega arith))))
  where
    go : (b : Bool) (ds : List ℕ) → all (λ d. ltb d (length vs)) ds ≡ true → all (λ d. ltb d (length vs)) (cond b ds []) ≡ true
    go true ds h = h
    go false ds h = refl

-- ---- the variables of the definitions

module _ (names : List (List ℕ)) (us : List Unknown) where
  -- one for each name
  pub count_variables : length (variables_of names us) ≡ length (variable_names names us)
  unfolding variables_of
  count_variables = length-map (variable_names names us) (variable names (variable_names names us) us)

  -- with its kept dependents
  pub variable_deps : (v : ℕ) → v < length (variable_names names us) → (at (variables_of names us) v).deps ≡ kept_deps (variable_names names us) us (get_or (variable_names names us) v 0)
  unfolding at variables_of variable
  variable_deps v l = ap (λ (x : Variable). x.deps) (get_d_map (variable names (variable_names names us) us) (variable_names names us) v 0 no_variable l)

-- two graphs that agree below n, where each step stays below n
pub reaches_alike : (next other : ℕ → List ℕ) (n k a b : ℕ) → ((v : ℕ) → v < n → next v ≡ other v) → ((v : ℕ) → v < n → all (λ d. ltb d n) (next v) ≡ true) → a < n → reaches next k a b ≡ reaches other k a b
unfolding reaches
reaches_alike next other n zero a b e h l = refl
reaches_alike next other n (suc k) a b e h l =
    any_alike (λ m. eqb m b || reaches next k m b) (λ m. eqb m b || reaches other k m b) n (next a) (h a l) (λ m g. rw (reaches_alike next other n k m b e h g))
    ∙ ap (any (λ m. eqb m b || reaches other k m b)) (e a l)
