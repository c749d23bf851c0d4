-- The variables of a sound model: names of the file, bounds of 64 bits, dependents and fates that are variable numbers.
use mathlib.Core.Path.{◌≡◌, refl, sym, subst}
use Prim.Native.Nat.{ℕ, suc, ◌+◌, ◌≤◌, ◌<◌}
use native.Mathlib.Omega.{arith}
use mathlib.Core.Bool.{Bool, true, false, cond, not, ◌&&◌, ◌||◌}
use mathlib.Core.List.{List, [], ◌∷◌, ◌++◌, map}
use mathlib.Core.Option.{Option, none, some}
use lib.Dec.{eqb}
use lib.ListN.{length, length-map}
use borrow.Author.Tests.{ltb-true, eqb-true, eq-eqb}
use Rattle.functions.specs.Lists.{any, keep, member, place_from, place, plus_one, to_list, text, same_text}
use Rattle.ast.specs.Tree.{Expr, name, number, binary, unary, call, Flat, equation, rate, Domain, unstated, range, named, Unknown}
use Rattle.ast.specs.WellFormed.{Each}
use Rattle.ast.proofs.FromBytes.{every_append, every_each}
use Rattle.definitions.specs.Names.{is_time, is_reserved, is_non_negative, time_name}
use Rattle.definitions.specs.Variables.{Bounds, Variable, infinity, minus_infinity, from_zero, unbounded, domain_bounds, last_bounds, time_bounds, bounds_of, declare, variable_names, number_of, kept_deps, variable, variables_of, time_index, at, is_state}
use Rattle.definitions.specs.Check.{Scope, lookup}
use Rattle.definitions.specs.Roles.{Role, starts, rates, free, Start, arg_at, number_in, start_of, at_lower, start_role, takes_rate, rate_role, role_of}
use Rattle.definitions.specs.Allocate.{Fate, is_rate_of, rate_fate, fates_of, numbers_from, lacking, left_count, paired_states}
use Rattle.definitions.specs.Answer.{fate_variable}
use Rattle.definitions.proofs.Everywhere.{If, if_bind, if_any, all_cond, all_map, all_every, cond_either}
use Rattle.definitions.proofs.Sound.{Double}
use Rattle.definitions.proofs.SoundFile.{SoundDomain, SoundUnknown}
use Rattle.definitions.proofs.ListLaws.{place_small}

-- ---- places

if_small : (n : ℕ) (o : Option ℕ) → plus_one o ≤ n → If (λ (i : ℕ). i < n) o
unfolding plus_one
if_small n none h = tt
if_small n (some i) h = omega arith

pub place_if : {A : Type 0} (p : A → Bool) (xs : List A) → If (λ (i : ℕ). i < length xs) (place p xs)
unfolding place
place_if p xs = if_small (length xs) (place_from 0 p xs) (omega (arith, place_small p 0 xs))

-- what is found, as a list
pub list_small : (k : ℕ) (o : Option ℕ) → If (λ (i : ℕ). i < k) o → Each (λ (d : ℕ). d < k) (to_list o)
unfolding to_list
list_small k none h = tt
list_small k (some i) h = (h, tt)

-- kept dependents are numbers of variables
pub deps_small : (vs : List ℕ) (us : List Unknown) (v : ℕ) → Each (λ (d : ℕ). d < length vs) (kept_deps vs us v)
unfolding kept_deps number_of
deps_small vs us v =
    every_each (λ (d : ℕ). d < length vs) (λ (u : Unknown). Unit {0}) _
    (λ u _. all_cond (λ (d : ℕ). d < length vs) (eqb (suc u.name) v) _ [] (every_each (λ (d : ℕ). d < length vs) (λ (d : ℕ). Unit {0}) _ (λ d _. list_small (length vs) _ (place_if (eqb (suc d)) vs)) u.deps (all_every _ (λ d. tt) u.deps)) tt)
    us (all_every _ (λ u. tt) us)

pub length_keep : {A : Type 0} (p : A → Bool) (xs : List A) → length (keep p xs) ≤ length xs
unfolding keep
length_keep p [] = omega arith
length_keep p (x ∷ xs) = go (p x) (length_keep p xs)
  where
    go : (b : Bool) → length (keep p xs) ≤ length xs → length (cond b (x ∷ keep p xs) (keep p xs)) ≤ suc (length xs)
    go true h = omega arith
    go false h = omega arith

-- ---- bounds

abbrev pub Doubles : Bounds → Type 0
Doubles b = Double b.lower × Double b.upper

zero_doubles : Doubles from_zero
unfolding from_zero infinity
zero_doubles = (omega arith, omega arith)

un_doubles : Doubles unbounded
unfolding unbounded infinity minus_infinity
un_doubles = (omega arith, omega arith)

-- a variable of k, where there are n names
pub record SoundVariable (n k : ℕ) (v : Variable) : Type 0 where
  pub name : v.name ≤ n
  pub bounds : Doubles v.bounds
  pub deps : Each (λ (d : ℕ). d < k) v.deps

module _ (n : ℕ) (ns : List (List ℕ)) where
  domain_doubles : (u : ℕ) (d : Domain) → SoundDomain n d → Doubles (domain_bounds ns u d)
  unfolding domain_bounds
  domain_doubles u unstated h = cond_either Doubles (is_time ns u) from_zero unbounded zero_doubles un_doubles
  domain_doubles u (range l r) h = h
  domain_doubles u (named d) h = cond_either Doubles (is_non_negative ns d) from_zero unbounded zero_doubles un_doubles

  last_doubles : (v : ℕ) (b : Bounds) (us : List Unknown) → Doubles b → Each (SoundUnknown n) us → Doubles (last_bounds ns v b us)
  unfolding last_bounds
  last_doubles v b [] h g = h
  last_doubles v b (u ∷ us) h g =
      last_doubles v (cond (eqb (suc u.name) v) (domain_bounds ns u.name u.domain) b) us (cond_either Doubles (eqb (suc u.name) v) (domain_bounds ns u.name u.domain) b (domain_doubles u.name u.domain g.0.domain) h) g.1

  pub time_doubles : (us : List Unknown) → Each (SoundUnknown n) us → Doubles (time_bounds ns us)
  unfolding time_bounds
  time_doubles us g = last_doubles (time_name ns) from_zero us zero_doubles g

  -- a declared t doesn't set the bounds of the variable t
  pub time_variable : (us : List Unknown) → bounds_of ns us (time_name ns) ≡ from_zero
  unfolding bounds_of
  time_variable us = rw (eq-eqb (time_name ns) (time_name ns) refl) refl

  pub other_variable : (us : List Unknown) (v : ℕ) → eqb v (time_name ns) ≡ false → bounds_of ns us v ≡ last_bounds ns v unbounded us
  unfolding bounds_of
  other_variable us v e = rw e refl

  bounds_doubles : (us : List Unknown) (v : ℕ) → Each (SoundUnknown n) us → Doubles (bounds_of ns us v)
  bounds_doubles us v g = go (eqb v (time_name ns)) refl
    where
      go : (b : Bool) → eqb v (time_name ns) ≡ b → Doubles (bounds_of ns us v)
      go true e = rw (eqb-true v (time_name ns) e, time_variable us) zero_doubles
      go false e = rw (other_variable us v e) (last_doubles v unbounded us un_doubles g)

  -- ---- names

  abbrev Named : ℕ → Type 0
  Named v = v ≤ n

  declare_named : (vs : List ℕ) (us : List Unknown) → Each Named vs → Each (SoundUnknown n) us → Each Named (declare ns vs us)
  unfolding declare
  declare_named vs [] h g = h
  declare_named vs (u ∷ us) h g =
      declare_named (cond (is_reserved ns u.name || member (suc u.name) vs) vs (vs ++ suc u.name ∷ [])) us (all_cond Named (is_reserved ns u.name || member (suc u.name) vs) vs (vs ++ suc u.name ∷ []) h (every_append Named vs (suc u.name ∷ []) h (ltb-true u.name n g.0.name, tt))) g.1

  time_named : length ns ≡ n → Named (time_name ns)
  unfolding time_name place
  time_named e = omega (arith, place_small (same_text (text "t")) 0 ns)

  -- ---- variables

  pub variables_sound : (us : List Unknown) → length ns ≡ n → Each (SoundUnknown n) us → Each (SoundVariable n (length (variables_of ns us))) (variables_of ns us)
  unfolding variables_of variable_names variable
  variables_sound us e g =
      let vs = declare ns (time_name ns ∷ []) us in
      let e₁ : length vs ≡ length (map (variable ns vs us) vs) = sym (length-map vs (variable ns vs us)) in
      subst (λ (k : ℕ). Each (SoundVariable n k) (map (variable ns vs us) vs)) e₁
      (all_map Named (SoundVariable n (length vs)) (variable ns vs us) (λ v h. record { name = h; bounds = bounds_doubles us v g; deps = deps_small vs us v }) vs
      (declare_named (time_name ns ∷ []) us (time_named e, tt) g))

-- ---- fates: variable numbers below k

module _ (k : ℕ) where
  abbrev pub FateSmall : Fate → Type 0
  FateSmall x = fate_variable x < k

  abbrev pub RoleSmall : Role → Type 0
  RoleSmall (starts v) = v < k
  RoleSmall (rates v) = v < k
  RoleSmall free = Unit {0}

  rate_small : (b : Bool) (v : ℕ) → v < k → FateSmall (rate_fate b v)
  unfolding rate_fate fate_variable
  rate_small true v h = h
  rate_small false v h = h

  pub fates_small : 1 ≤ k → (queue : List ℕ) (rs : List Role) → Each (λ (v : ℕ). v < k) queue → Each RoleSmall rs → Each FateSmall (fates_of queue rs)
  unfolding fates_of fate_variable
  fates_small pos queue [] h g = tt
  fates_small pos queue (starts v ∷ rs) h g = (g.0, fates_small pos queue rs h g.1)
  fates_small pos queue (rates v ∷ rs) h g = (rate_small (any (is_rate_of v) rs) v g.0, fates_small pos queue rs h g.1)
  fates_small pos [] (free ∷ rs) h g = (pos, fates_small pos [] rs h g.1)
  fates_small pos (v ∷ queue) (free ∷ rs) h g = (h.0, fates_small pos queue rs h.1 g.1)

upto_small : (i n : ℕ) (vs : List Variable) → i + length vs ≤ n → Each (λ (v : ℕ). v < n) (numbers_from i vs)
unfolding numbers_from
upto_small i n [] h = tt
upto_small i n (v ∷ vs) h = (omega arith, upto_small (suc i) n vs (omega arith))

all_keep : {A : Type 0} (P : A → Type 0) (p : A → Bool) (xs : List A) → Each P xs → Each P (keep p xs)
unfolding keep
all_keep P p [] h = tt
all_keep P p (x ∷ xs) h = all_cond P (p x) (x ∷ keep p xs) (keep p xs) (h.0, all_keep P p xs h.1) (all_keep P p xs h.1)

pub queue_small : (vs : List Variable) (rs : List Role) → Each (λ (v : ℕ). v < length vs) (paired_states vs rs)
unfolding paired_states lacking
queue_small vs rs =
    all_cond (λ (v : ℕ). v < length vs) (eqb (left_count rs) (length (lacking vs rs))) (lacking vs rs) []
    (all_keep (λ (v : ℕ). v < length vs) (λ v. is_state (at vs v) && not (any (is_rate_of v) rs)) (numbers_from 0 vs) (upto_small 0 (length vs) vs (omega arith))) tt

module _ (c : Scope) (time : Bounds) where
  start_small : (l : Expr) → If (λ (x : Start). x.variable < length c.vars) (start_of c l)
  unfolding start_of lookup
  start_small (name n s) = tt
  start_small (number b s) = tt
  start_small (binary o l r s) = tt
  start_small (unary o e s) = tt
  start_small (call f a s) =
      let P : Start → Type 0 = λ x. x.variable < length c.vars in
      if_bind (λ (i : ℕ). i < length c.vars) P (lookup c f) _ (place_if _ c.vars) (λ v h.
      if_bind _ P (time_index (at c.vars v)) _ (if_any (time_index (at c.vars v))) (λ i _.
      if_bind _ P (arg_at i a) _ (if_any (arg_at i a)) (λ p _.
      if_bind _ P (number_in p.0) _ (if_any (number_in p.0)) (λ b _. h))))

  start_role_small : (o : Option Start) → If (λ (x : Start). x.variable < length c.vars) o → RoleSmall (length c.vars) (start_role time o)
  unfolding start_role
  start_role_small none h = tt
  start_role_small (some x) h = cond_either (RoleSmall (length c.vars)) (at_lower time x) (starts x.variable) free h tt

  rate_role_small : (o : Option ℕ) → If (λ (v : ℕ). v < length c.vars) o → RoleSmall (length c.vars) (rate_role c o)
  unfolding rate_role
  rate_role_small none h = tt
  rate_role_small (some v) h = cond_either (RoleSmall (length c.vars)) (takes_rate c v) (rates v) free h tt

  pub role_small : (q : Flat) → RoleSmall (length c.vars) (role_of c time q)
  unfolding role_of lookup
  role_small (equation l r s) = start_role_small (start_of c l) (start_small l)
  role_small (rate n r s) = rate_role_small (lookup c n) (place_if _ c.vars)
