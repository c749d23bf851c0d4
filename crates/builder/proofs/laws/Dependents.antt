-- Whether a name is that of a kept dependent of a variable: it is a variable, and an unknown of the variable's name lists it.
use mathlib.Core.Path.{◌≡◌, refl, sym, ap, ◌∙◌}
use mathlib.Core.Bool.{Bool, true, false, cond, ◌&&◌, ◌||◌}
use mathlib.Core.List.{List, [], ◌∷◌, map, map-append}
use mathlib.Core.Option.{Option, none, some, some-injective}
use Prim.Native.Nat.{ℕ, zero, suc}
use native.Mathlib.Omega.{arith}
use borrow.Author.Tests.{eqb-true}
use lib.Dec.{eqb, eqb-suc-suc}
use lib.ListN.{get_or, get_elem?}
use Rattle.functions.specs.Lists.{any, place, each, is_some, to_list, member}
use Rattle.functions.proofs.Lists.{clash}
use Rattle.functions.proofs.Places.{place_at}
use Rattle.ast.specs.Tree.{Unknown, Model, File}
use Rattle.definitions.specs.Variables.{Variable, variable, variables_of, variable_names, number_of, kept_deps, no_variable, at}
use Rattle.definitions.specs.Check.{lookup, dep_names}
use Rattle.definitions.specs.Flatten.{scope_of}
use Rattle.builder.specs.Checking.{kept_names}
use Rattle.definitions.proofs.ListLaws.{any_append, place_map}

-- ---- lists

map_found : {A B : Type 0} (f : A → B) (xs : List A) (j : ℕ) (x : A) (d : B) → get_elem? xs j ≡ some x → get_or (map f xs) j d ≡ f x
map_found f [] j x d e = clash (cc)
map_found f (y ∷ xs) zero x d e = ap f (some-injective _ _ e)
map_found f (y ∷ xs) (suc j) x d e = map_found f xs j x d e

and_false : (b : Bool) → false ≡ b && false
and_false true = refl
and_false false = refl

and_or : (b c d : Bool) → b && (c || d) ≡ (b && c || b && d)
and_or true c d = refl
and_or false c d = refl

-- whether an unknown of the name x lists y
abbrev pub lists_as : ℕ → ℕ → Unknown → Bool
lists_as x y u = eqb u.name x && member y u.deps

-- ---- the variables of a model with the unknowns us

module _ (names : List (List ℕ)) (us : List Unknown) where
  abbrev vs : List ℕ
  vs = variable_names names us

  abbrev vars : List Variable
  vars = map (variable names vs us) vs

  -- the name, plus 1, of a variable
  abbrev named : ℕ → ℕ
  named d = (at vars d).name

  var_at : (n v : ℕ) → number_of vs n ≡ some v → at vars v ≡ variable names vs us (suc n)
  unfolding number_of place at
  var_at n v e =
      let (j, x, l, g, p) = place_at (eqb (suc n)) 0 vs v e in
      let q : v ≡ j = omega arith in
      let t : suc n ≡ x = eqb-true _ _ p in
      ap (λ (k : ℕ). get_or vars k no_variable) q ∙ map_found (variable names vs us) vs j x no_variable g ∙ ap (variable names vs us) (sym t)

  var_named : (n v : ℕ) → number_of vs n ≡ some v → named v ≡ suc n
  unfolding variable
  var_named n v e = ap (λ (w : Variable). w.name) (var_at n v e)

  -- of one unknown's dependents
  deps_named : (y : ℕ) (ds : List ℕ) → member (suc y) (map named (each (λ d. to_list (number_of vs d)) ds)) ≡ (is_some (number_of vs y) && member y ds)
  unfolding member any each to_list is_some
  deps_named y [] = and_false (is_some (number_of vs y))
  deps_named y (d ∷ ds) =
      ap (any (eqb (suc y))) (map-append named (to_list (number_of vs d)) (each (λ d. to_list (number_of vs d)) ds))
      ∙ any_append (eqb (suc y)) (map named (to_list (number_of vs d))) (map named (each (λ d. to_list (number_of vs d)) ds))
      ∙ rw (deps_named y ds, first (number_of vs d) refl) (sym (and_or (is_some (number_of vs y)) (eqb y d) (any (eqb y) ds)))
    where
      same : (o : Option ℕ) (b : Bool) → number_of vs d ≡ o → eqb y d ≡ b → is_some o && b ≡ is_some (number_of vs y) && b
      same o true e g = let q : y ≡ d = eqb-true y d g in rw (q, e) refl
      same none false e g = and_false (is_some (number_of vs y))
      same (some v) false e g = and_false (is_some (number_of vs y))

      first : (o : Option ℕ) → number_of vs d ≡ o → any (eqb (suc y)) (map named (to_list o)) ≡ is_some (number_of vs y) && eqb y d
      first none e = same none (eqb y d) e refl
      first (some v) e = rw (var_named d v e, eqb-suc-suc y d) (or_false (eqb y d) ∙ same (some v) (eqb y d) e refl)
        where
          or_false : (b : Bool) → b || false ≡ b
          or_false true = refl
          or_false false = refl

  kept_named_lem : (x y : ℕ) (xs : List Unknown) → member (suc y) (map named (kept_deps vs xs (suc x))) ≡ (is_some (number_of vs y) && any (lists_as x y) xs)
  unfolding kept_deps each member any
  kept_named_lem x y [] = and_false (is_some (number_of vs y))
  kept_named_lem x y (u ∷ xs) =
      ap (any (eqb (suc y))) (map-append named (cond (eqb (suc u.name) (suc x)) (each (λ d. to_list (number_of vs d)) u.deps) []) (kept_deps vs xs (suc x)))
      ∙ any_append (eqb (suc y)) (map named (cond (eqb (suc u.name) (suc x)) (each (λ d. to_list (number_of vs d)) u.deps) [])) (map named (kept_deps vs xs (suc x)))
      ∙ rw (kept_named_lem x y xs, eqb-suc-suc u.name x, first (eqb u.name x)) (sym (and_or (is_some (number_of vs y)) (eqb u.name x && any (eqb y) u.deps) (any (lists_as x y) xs)))
    where
      first : (b : Bool) → any (eqb (suc y)) (map named (cond b (each (λ d. to_list (number_of vs d)) u.deps) [])) ≡ is_some (number_of vs y) && (b && any (eqb y) u.deps)
      first true = deps_named y u.deps
      first false = and_false (is_some (number_of vs y))

module _ (f : File) (m : Model) where
  abbrev us : List Unknown
  us = m.unknowns

  looked : (n : ℕ) → lookup (scope_of f m) n ≡ number_of (vs f.names us) n
  unfolding lookup scope_of variables_of number_of place variable
  looked n = place_map (variable f.names (vs f.names us) us) _ 0 (vs f.names us)

  -- the names of the kept dependents of the variable of the name x
  pub kept_member : (x y : ℕ) → is_some (lookup (scope_of f m) x) ≡ true
      → member (suc y) (kept_names (scope_of f m) (lookup (scope_of f m) x)) ≡ (is_some (lookup (scope_of f m) y) && any (lists_as x y) us)
  unfolding is_some kept_names dep_names scope_of variables_of variable
  kept_member x y h = go (lookup (scope_of f m) x) refl h
    where
      go : (o : Option ℕ) → lookup (scope_of f m) x ≡ o → is_some o ≡ true → member (suc y) (kept_names (scope_of f m) o) ≡ (is_some (lookup (scope_of f m) y) && any (lists_as x y) us)
      go none e h = clash (cc)
      go (some v) e h =
          let a = var_at f.names us x v (sym (looked x) ∙ e) in
          rw (looked y, a) (kept_named_lem f.names us x y us)
