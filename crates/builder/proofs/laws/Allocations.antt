-- What the tables say of a statement is what its scope and time's bounds say of it, where they agree.
use mathlib.Core.Path.{◌≡◌, refl, ap, ◌∙◌}
use mathlib.Core.Bool.{Bool}
use mathlib.Core.Logic.{⊎_elim}
use mathlib.Core.List.{List, [], ◌∷◌, map}
use mathlib.Core.Option.{Option, none, some}
use Prim.Native.Nat.{ℕ, suc, ◌<◌}
use native.Mathlib.Omega.{arith}
use borrow.Author.Tests.{ltb-true}
use lib.Dec.{eqb}
use lib.ListN.{length, get_or}
use lib.Ieee.{Float}
use Rattle.functions.specs.Lists.{any, each, place, plus_one, ◌>>=◌}
use Rattle.ast.specs.Tree.{Span, Expr, name, number, binary, unary, call, Args, Flat, equation, rate}
use Rattle.ast.specs.Words.{word_of}
use Rattle.ast.specs.Nodes.{tree_at}
use Rattle.ast.proofs.Formed.{WellFormed, tree_formed}
use Rattle.definitions.specs.Variables.{Error, Bounds, at, time_index}
use Rattle.definitions.specs.Check.{Scope, lookup}
use Rattle.definitions.specs.Roles.{Start, Role, start_of, takes_rate, rate_role, rate_errors, at_lower, start_role, start_errors, role_of, role_errors, short_for, short_call, short_left, too_short}
use Rattle.area.specs.declared.sections.Sizes.{Sizes}
use Rattle.builder.specs.Allocating.{flat_at, flat_in, flats_in, Flattened, less_one, entry_by, start_by, few_for, short_call_by, short_left_by, short_by, start_role_by, start_errors_by, rate_role_by, rate_errors_by, role_by, role_errors_by, Agree}
use Rattle.area.specs.Sections.{area_nodes, area_stmt}
use Rattle.builder.proofs.laws.Flats.{same_float_lem, flats_count, flat_at_lem, flat_equation, flat_rate}
use Rattle.definitions.proofs.ListLaws.{flag_one, place_below}

-- A statement whose names there are.
abbrev pub FlatFormed : ℕ → Flat → Type 0
FlatFormed names (equation l r s) = WellFormed names l × WellFormed names r
FlatFormed names (rate n r s) = (n < names) × WellFormed names r

-- The statements of a flattened model are such.
pub flat_formed : (names : ℕ) (b : List ℕ) (z : Sizes) → Flattened names b z → (i : ℕ) → i < z.stmts → FlatFormed names (flat_in b z i)
flat_formed names b z o i h = ⊎_elim (λ e. equation_formed e) (λ e. rate_formed e) (o.kind i h)
  where
    right_formed : WellFormed names (tree_at (area_nodes b z) (word_of (area_stmt b z i) 3))
    right_formed = let r = o.right i h in tree_formed names (area_nodes b z) z.nodes o.nodes (word_of (area_stmt b z i) 3) r.0 r.1

    equation_formed : word_of (area_stmt b z i) 0 ≡ 1 → FlatFormed names (flat_in b z i)
    equation_formed e =
        let l = o.left i h e in
        rw (flat_equation b z i e) (tree_formed names (area_nodes b z) z.nodes o.nodes (word_of (area_stmt b z i) 2) l.0 l.1, right_formed)

    rate_formed : word_of (area_stmt b z i) 0 ≡ 2 → FlatFormed names (flat_in b z i)
    rate_formed e = rw (flat_rate b z i (λ g. omega arith)) (o.name i h e, right_formed)

lookup_below : (c : Scope) (n v : ℕ) → lookup c n ≡ some v → v < length c.vars
unfolding lookup place
lookup_below c n v e = omega (arith, place_below _ 0 c.vars v e)

-- one more, one less
less_plus : (o : Option ℕ) → less_one (plus_one o) ≡ o
unfolding less_one plus_one
less_plus none = refl
less_plus (some v) = refl

module _ (c : Scope) (time : Bounds) (numbers indexes rate_table : List ℕ) (lower : Float) (a : Agree c time numbers indexes rate_table lower) where
  -- ---- entries

  entry_number : (n : ℕ) → n < length c.names → entry_by numbers n ≡ lookup c n
  unfolding entry_by
  entry_number n h = ap less_one (a.number n h) ∙ less_plus (lookup c n)

  entry_index : (v : ℕ) → v < length c.vars → entry_by indexes v ≡ time_index (at c.vars v)
  unfolding entry_by
  entry_index v h = ap less_one (a.index v h) ∙ less_plus (time_index (at c.vars v))

  entry_rate : (v : ℕ) → v < length c.vars → eqb (get_or rate_table v 0) 1 ≡ takes_rate c v
  entry_rate v h = ap (λ (k : ℕ). eqb k 1) (a.rate v h) ∙ flag_one (takes_rate c v)

  -- ---- left sides

  start_call : (f : ℕ) (x : Args) (s : Span) → f < length c.names → start_by numbers indexes (call f x s) ≡ start_of c (call f x s)
  unfolding start_by start_of ◌>>=◌
  start_call f x s h = go (lookup c f) refl
    where
      go : (o : Option ℕ) → lookup c f ≡ o → start_by numbers indexes (call f x s) ≡ start_of c (call f x s)
      go none e = rw (entry_number f h, e) refl
      go (some v) e = rw (entry_number f h, e, entry_index v (lookup_below c f v e)) refl

  short_call_lem : (f : ℕ) (x : Args) (s : Span) → f < length c.names → short_left_by numbers indexes (call f x s) ≡ short_left c (call f x s)
  unfolding short_left_by short_call_by few_for short_left short_call short_for
  short_call_lem f x s h = go (lookup c f) refl
    where
      last : (v : ℕ) → lookup c f ≡ some v → (o : Option ℕ) → time_index (at c.vars v) ≡ o → short_left_by numbers indexes (call f x s) ≡ short_left c (call f x s)
      last v e none g = rw (entry_number f h, e, entry_index v (lookup_below c f v e), g) refl
      last v e (some k) g = rw (entry_number f h, e, entry_index v (lookup_below c f v e), g) refl

      go : (o : Option ℕ) → lookup c f ≡ o → short_left_by numbers indexes (call f x s) ≡ short_left c (call f x s)
      go none e = rw (entry_number f h, e) refl
      go (some v) e = last v e (time_index (at c.vars v)) refl

  start_same : (l : Expr) → WellFormed (length c.names) l → start_by numbers indexes l ≡ start_of c l
  unfolding start_by start_of
  start_same (name n s) w = refl
  start_same (number b s) w = refl
  start_same (binary o l r s) w = refl
  start_same (unary o e s) w = refl
  start_same (call f x s) w = start_call f x s (ltb-true _ _ w.1)

  short_same : (l : Expr) → WellFormed (length c.names) l → short_left_by numbers indexes l ≡ short_left c l
  unfolding short_left_by short_left
  short_same (name n s) w = refl
  short_same (number b s) w = refl
  short_same (binary o l r s) w = refl
  short_same (unary o e s) w = refl
  short_same (call f x s) w = short_call_lem f x s (ltb-true _ _ w.1)

  -- ---- roles and errors

  start_role_lem : (o : Option Start) → start_role_by lower o ≡ start_role time o
  unfolding start_role_by start_role at_lower
  start_role_lem none = refl
  start_role_lem (some x) = rw (a.low, same_float_lem x.bits time.lower) refl

  start_errors_lem : (o : Option Start) → start_errors_by lower o ≡ start_errors time o
  unfolding start_errors_by start_errors at_lower
  start_errors_lem none = refl
  start_errors_lem (some x) = rw (a.low, same_float_lem x.bits time.lower) refl

  rate_role_lem : (n : ℕ) → n < length c.names → rate_role_by rate_table (entry_by numbers n) ≡ rate_role c (lookup c n)
  unfolding rate_role_by rate_role
  rate_role_lem n h = go (lookup c n) refl
    where
      go : (o : Option ℕ) → lookup c n ≡ o → rate_role_by rate_table (entry_by numbers n) ≡ rate_role c (lookup c n)
      go none e = rw (entry_number n h, e) refl
      go (some v) e = rw (entry_number n h, e, entry_rate v (lookup_below c n v e)) refl

  rate_errors_lem : (n : ℕ) (s : Span) → n < length c.names → rate_errors_by rate_table n s (entry_by numbers n) ≡ rate_errors c n s (lookup c n)
  unfolding rate_errors_by rate_errors
  rate_errors_lem n s h = go (lookup c n) refl
    where
      go : (o : Option ℕ) → lookup c n ≡ o → rate_errors_by rate_table n s (entry_by numbers n) ≡ rate_errors c n s (lookup c n)
      go none e = rw (entry_number n h, e) refl
      go (some v) e = rw (entry_number n h, e, entry_rate v (lookup_below c n v e)) refl

  -- ---- statements

  -- the role
  pub role_same : (q : Flat) → FlatFormed (length c.names) q → role_by numbers indexes rate_table lower q ≡ role_of c time q
  unfolding role_by role_of
  role_same (equation l r s) w = ap (start_role_by lower) (start_same l w.0) ∙ start_role_lem (start_of c l)
  role_same (rate n r s) w = rate_role_lem n w.0

  -- whether the left side is too short
  pub flat_short : (q : Flat) → FlatFormed (length c.names) q → short_by numbers indexes q ≡ too_short c q
  unfolding short_by too_short
  flat_short (equation l r s) w = short_same l w.0
  flat_short (rate n r s) w = refl

  -- the errors
  pub errors_same : (q : Flat) → FlatFormed (length c.names) q → role_errors_by numbers indexes rate_table lower q ≡ role_errors c time q
  unfolding role_errors_by role_errors
  errors_same (equation l r s) w = ap (start_errors_by lower) (start_same l w.0) ∙ start_errors_lem (start_of c l)
  errors_same (rate n r s) w = rate_errors_lem n s w.0

-- ---- all statements of an area

-- what two functions say alike of each statement they say alike of all
module _ (d : Flat) where
  map_alike : (f g : Flat → Role) (l : List Flat) → ((i : ℕ) → i < length l → f (get_or l i d) ≡ g (get_or l i d)) → map f l ≡ map g l
  map_alike f g [] h = refl
  map_alike f g (q ∷ l) h = rw (h 0 (omega arith), map_alike f g l (λ i k. h (suc i) (omega arith))) refl

  any_alike : (f g : Flat → Bool) (l : List Flat) → ((i : ℕ) → i < length l → f (get_or l i d) ≡ g (get_or l i d)) → any f l ≡ any g l
  unfolding any
  any_alike f g [] h = refl
  any_alike f g (q ∷ l) h = rw (h 0 (omega arith), any_alike f g l (λ i k. h (suc i) (omega arith))) refl

  each_alike : (f g : Flat → List Error) (l : List Flat) → ((i : ℕ) → i < length l → f (get_or l i d) ≡ g (get_or l i d)) → each f l ≡ each g l
  unfolding each
  each_alike f g [] h = refl
  each_alike f g (q ∷ l) h = rw (h 0 (omega arith), each_alike f g l (λ i k. h (suc i) (omega arith))) refl

module _ (c : Scope) (time : Bounds) (numbers indexes rate_table : List ℕ) (lower : Float) (a : Agree c time numbers indexes rate_table lower) (b : List ℕ) (z : Sizes) (o : Flattened (length c.names) b z) where
  abbrev no_flat : Flat
  no_flat = flat_at (area_nodes b z) []

  all_formed : (i : ℕ) → i < length (flats_in b z) → FlatFormed (length c.names) (get_or (flats_in b z) i no_flat)
  all_formed i h = rw (flat_at_lem b z i) (flat_formed (length c.names) b z o i (omega (arith, flats_count b z)))

  -- their roles
  pub roles_same : map (role_by numbers indexes rate_table lower) (flats_in b z) ≡ map (role_of c time) (flats_in b z)
  roles_same = map_alike no_flat _ _ (flats_in b z) (λ i h. role_same c time numbers indexes rate_table lower a (get_or (flats_in b z) i no_flat) (all_formed i h))

  -- whether any left side is too short
  pub shorts_same : any (short_by numbers indexes) (flats_in b z) ≡ any (too_short c) (flats_in b z)
  shorts_same = any_alike no_flat _ _ (flats_in b z) (λ i h. flat_short c time numbers indexes rate_table lower a (get_or (flats_in b z) i no_flat) (all_formed i h))

  -- their errors
  pub all_errors_same : each (role_errors_by numbers indexes rate_table lower) (flats_in b z) ≡ each (role_errors c time) (flats_in b z)
  all_errors_same = each_alike no_flat _ _ (flats_in b z) (λ i h. errors_same c time numbers indexes rate_table lower a (get_or (flats_in b z) i no_flat) (all_formed i h))
