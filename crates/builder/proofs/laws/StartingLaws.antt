-- Errors 14 to 17 over the records of an area, one test at a time: of a model's span, of the counts, of a variable, and of all of them.
use mathlib.Core.Path.{◌≡◌, refl, sym, ap, ◌∙◌}
use mathlib.Core.Bool.{Bool, true, false, cond, ◌&&◌, ◌||◌}
use mathlib.Core.List.{List, [], ◌∷◌, ◌++◌}
use mathlib.Core.Option.{none, some}
use Prim.Native.Nat.{ℕ, zero, suc, ◌+◌, ◌-◌, ◌^◌, ◌≤◌, ◌<◌}
use native.Mathlib.Omega.{arith}
use native.Mathlib.Numerals.{add-one, sub-one}
use borrow.Author.Tests.{eq-eqb, ne_eqb, eqb-false}
use Rattle.std.proofs.Common.{nat_cmp, Less, Equal, Greater}
use Rattle.std.proofs.lemmas.Bool.Decides.{nat_tests}
use lib.Dec.{eqb, ltb}
use lib.ListN.{length, drop, get_or, length-append}
use Rattle.std.specs.declared.option.Option as answer
use Rattle.std.specs.declared.option.Option.TheVariants.{None, Some}
use Rattle.std.specs.List.{find, range_with_len}
use Rattle.std.specs.Option.{option_map}
use Rattle.functions.specs.Lists.{place, place_from, plus_one, times, flag}
use Rattle.functions.proofs.Lists.{clash, drop_here, drop_past}
use Rattle.ast.specs.Tree.{Span}
use Rattle.ast.specs.Words.{word_of, span_from}
use Rattle.ast.specs.Records.{model_of}
use Rattle.ast.specs.Opens.{Open, contents_in, file_in}
use Rattle.ast.specs.declared.sections.Sections.{Sections}
use Rattle.ast.proofs.Files.{model_at_lem}
use Rattle.definitions.specs.Numbers.{underdetermined, overdetermined, no_initial_condition, algebraic_initial_condition}
use Rattle.definitions.specs.Variables.{Error, error}
use Rattle.definitions.specs.Flatten.{no_model, model_at}
use Rattle.definitions.specs.Allocate.{count_errors}
use Rattle.area.specs.Listing.{Lists}
use Rattle.area.specs.LentList.{Listed}
use Rattle.area.specs.declared.errors.Errors.{Errors}
use Rattle.builder.specs.Fating.{is_fated}
use Rattle.builder.specs.Starting.{place_as, right_span_in, held_errors_in, state_errors_in, starting_in}
use Rattle.area.proofs.Listings.{length_listed, lists_then}
use Rattle.builder.proofs.laws.OpenRecords.{long}

-- a model's span by its record
pub model_span : (f : List ℕ) (s : Sections) → Open f s → (m : ℕ) → m < s.counts.models → (model_at (file_in f s) m).span ≡ span_from (get_or (contents_in f s).models m []) 5
unfolding model_at model_of
model_span f s o m h = ap (λ x. x.span) (model_at_lem (contents_in f s) m no_model (omega (arith, (long f s o).models)))

-- ---- errors 14 and 15

module _ (s : Span) (left states : ℕ) where
  pub count_same : Equal ≡ nat_cmp left states → count_errors s left states ≡ []
  unfolding count_errors
  count_same e = let t : eqb left states ≡ true = grind (arith, nat_tests) in rw t refl

  pub count_under : Less ≡ nat_cmp left states → count_errors s left states ≡ error underdetermined s 0 ∷ []
  unfolding count_errors
  count_under e =
      let t : eqb left states ≡ false = grind (arith, nat_tests) in
      let u : ltb left states ≡ true = grind (arith, nat_tests) in
      rw (t, u) refl

  pub count_over : Greater ≡ nat_cmp left states → count_errors s left states ≡ error overdetermined s 0 ∷ []
  unfolding count_errors
  count_over e =
      let t : eqb left states ≡ false = grind (arith, nat_tests) in
      let u : ltb left states ≡ false = grind (arith, nat_tests) in
      rw (t, u) refl

-- ---- the first element that passes, by its place

module _ (p : List ℕ → Bool) (xs : List (List ℕ)) where
  found_from : (n k : ℕ) → k + n ≡ length xs → place_as (find (λ i. p (get_or xs i [])) (range_with_len k n)) ≡ place_from k p (drop k xs)
  unfolding place_as place_from
  found_from zero k e = rw (drop_past xs k (omega arith)) refl
  found_from (suc n) k e = rw (drop_here xs [] k (omega arith)) (by (p (get_or xs k [])) (found_from n (k + 1) (omega arith)))
    where
      by : (b : Bool) → place_as (find (λ i. p (get_or xs i [])) (range_with_len (k + 1) n)) ≡ place_from (k + 1) p (drop (k + 1) xs)
          → place_as (cond b (Some k) (find (λ i. p (get_or xs i [])) (range_with_len (k + 1) n))) ≡ cond b (some k) (place_from (suc k) p (drop (k + 1) xs))
      by true h = refl
      by false h = h ∙ ap (λ (j : ℕ). place_from j p (drop (k + 1) xs)) (add-one k)

  pub found_place : (r : answer.Option ℕ) → option_map (λ i. i) r ≡ find (λ i. p (get_or xs i [])) (range_with_len 0 (length xs)) → place_as r ≡ place p xs
  unfolding place_as place
  found_place None e = rw (← e) at (found_from (length xs) 0 (omega arith))
  found_place (Some i) e = rw (← e) at (found_from (length xs) 0 (omega arith))

-- ---- errors 16 and 17 of a variable by the words of its record, and whether the statement that it holds is a rate equation

-- a first one that passes is there where some do
some_pass : {A : Type 0} (p : A → Bool) (k : ℕ) (xs : List A) → eqb (plus_one (place_from k p xs)) 0 ≡ eqb (times p xs) 0
unfolding place_from plus_one times flag
some_pass p k [] = refl
some_pass p k (x ∷ xs) = by (p x) (some_pass p (suc k) xs)
  where
    by : (b : Bool) → eqb (plus_one (place_from (suc k) p xs)) 0 ≡ eqb (times p xs) 0 → eqb (plus_one (cond b (some k) (place_from (suc k) p xs))) 0 ≡ eqb (flag b + times p xs) 0
    by true h = ne_eqb (suc k) 0 (λ e. omega arith) ∙ sym (ne_eqb (1 + times p xs) 0 (λ e. omega arith))
    by false h = let e : 0 + times p xs ≡ times p xs = omega arith in h ∙ ap (λ (n : ℕ). eqb n 0) (sym e)

-- of two tests, both, one, and none
both_pass : (b c : Bool) (xs ys : List Error) → (b && c) ≡ true → cond b (cond c xs []) (cond c [] ys) ≡ xs
both_pass true true xs ys e = refl
both_pass true false xs ys e = clash (cc)
both_pass false c xs ys e = clash (cc)

one_passes : (b c : Bool) (xs ys : List Error) → (b && c) ≡ false → (b || c) ≡ true → cond b (cond c xs []) (cond c [] ys) ≡ []
one_passes true true xs ys e g = clash (cc)
one_passes true false xs ys e g = refl
one_passes false true xs ys e g = refl
one_passes false false xs ys e g = clash (cc)

none_passes : (b c : Bool) (xs ys : List Error) → (b || c) ≡ false → (cond b (cond c xs []) (cond c [] ys) ≡ ys) × (c ≡ false)
none_passes true c xs ys e = clash (cc)
none_passes false true xs ys e = clash (cc)
none_passes false false xs ys e = (refl, refl)

module _ (model : Span) (ns rs : List (List ℕ)) (name v held : ℕ) (eh : held ≡ plus_one (place (is_fated 2 v) rs)) where
  pub state_bare : held ≡ 0 → state_errors_in model ns rs name v ≡ []
  unfolding state_errors_in held_errors_in
  state_bare e = let t : eqb held 0 ≡ true = eq-eqb held 0 e in rw (← eh, t) refl

  module _ (n : held ≡ 0 → ⊥) (rate : Bool) (count : ℕ) (er : rate ≡ eqb (word_of (get_or rs (held - 1) []) 0) 2) (ec : count ≡ times (is_fated 1 v) rs) where
    -- its first condition
    abbrev first : ℕ
    first = plus_one (place (is_fated 1 v) rs)

    no_first : eqb first 0 ≡ eqb count 0
    unfolding place
    no_first = some_pass (is_fated 1 v) 0 rs ∙ ap (λ (k : ℕ). eqb k 0) (sym ec)

    by_words : state_errors_in model ns rs name v
        ≡ cond rate (cond (eqb count 0) (error no_initial_condition model name ∷ []) []) (cond (eqb count 0) [] (error algebraic_initial_condition (right_span_in ns rs (first - 1)) name ∷ []))
    unfolding state_errors_in held_errors_in
    by_words =
        let t : eqb held 0 ≡ false = ne_eqb held 0 n in
        rw (← eh, t, ← er, no_first) refl

    pub state_lacks : (rate && eqb count 0) ≡ true → state_errors_in model ns rs name v ≡ error no_initial_condition model name ∷ []
    state_lacks e = by_words ∙ both_pass rate (eqb count 0) _ _ e

    pub state_free : (rate && eqb count 0) ≡ false → (rate || eqb count 0) ≡ true → state_errors_in model ns rs name v ≡ []
    state_free e g = by_words ∙ one_passes rate (eqb count 0) _ _ e g

    module _ (e : (rate || eqb count 0) ≡ false) where
      pub state_algebraic : (i : ℕ) → some i ≡ place (is_fated 1 v) rs → state_errors_in model ns rs name v ≡ error algebraic_initial_condition (right_span_in ns rs i) name ∷ []
      unfolding plus_one
      state_algebraic i g = by_words ∙ (none_passes rate (eqb count 0) _ _ e).0 ∙ rw (← g, sub-one (suc i)) refl

      -- there is a first condition
      pub state_starts : none ≡ place (is_fated 1 v) rs → state_errors_in model ns rs name v ≡ []
      unfolding plus_one
      state_starts g =
          let f : first ≡ 0 = rw (← g) refl in
          absurd (eqb-false first 0 (no_first ∙ (none_passes rate (eqb count 0) [] [] e).1) f)

-- ---- of all variables

few_by : (a b c : Bool) (x y : Error) → length (cond a [] (cond b (cond c (x ∷ []) []) (cond c [] (y ∷ [])))) ≤ 1
few_by true b c x y = omega arith
few_by false true true x y = omega arith
few_by false true false x y = omega arith
few_by false false true x y = omega arith
few_by false false false x y = omega arith

module _ (model : Span) (ns rs : List (List ℕ)) where
  -- a variable has at most one
  state_few : (name v : ℕ) → length (state_errors_in model ns rs name v) ≤ 1
  unfolding state_errors_in held_errors_in
  state_few name v =
      let a = plus_one (place (is_fated 2 v) rs) in
      let b = plus_one (place (is_fated 1 v) rs) in
      few_by (eqb a 0) (eqb (word_of (get_or rs (a - 1) []) 0) 2) (eqb b 0) (error no_initial_condition model name) (error algebraic_initial_condition (right_span_in ns rs (b - 1)) name)

  -- and n variables at most n
  starting_most : (names : List ℕ) (n : ℕ) → length (starting_in model ns rs names n) ≤ n
  unfolding starting_in
  starting_most names zero = omega arith
  starting_most names (suc n) = simp length-append (omega (arith, starting_most names n, state_few (get_or names n 0) n))

  -- of no variables
  pub starting_none : (names : List ℕ) → starting_in model ns rs names 0 ≡ []
  unfolding starting_in
  starting_none names = refl

  -- those up to v, and those of v
  starting_turn : (names : List ℕ) (v : ℕ) → starting_in model ns rs names (v + 1) ≡ starting_in model ns rs names v ++ state_errors_in model ns rs (get_or names v 0) v
  unfolding starting_in
  starting_turn names v = rw (add-one v) refl

-- ---- as they are listed

-- the length stays
pub lists_length : (d d' : List ℕ) (n r : ℕ) (es : List Error) → 4096 ≤ length d → Lists d n es r d' → length d' ≡ length d
lists_length d d' n r es h p = ap length p.1 ∙ length_listed d n es h

module _ (model : Span) (ns rs : List (List ℕ)) (names d d' : List ℕ) (v n r : ℕ) (p : Lists d n (starting_in model ns rs names v) r d') where
  -- as many as there are variables can be counted
  pub starting_few : (vars : ℕ) → n + vars < 2 ^ 40 → v ≤ vars → r < 2 ^ 40
  starting_few vars h l = omega (arith, p.0, starting_most model ns rs names v)

  -- one variable more
  pub starting_next : (d'' : List ℕ) (r' : ℕ) (es : List Error) → es ≡ state_errors_in model ns rs (get_or names v 0) v → Lists d' r es r' d'' → Lists d n (starting_in model ns rs names (v + 1)) r' d''
  starting_next d'' r' es e q =
      lists_then (record { is = starting_turn model ns rs names v ∙ ap (λ (xs : List Error). starting_in model ns rs names v ++ xs) (sym e) }) d d' d'' n r r' p q

-- the same in lent bytes
module _ (model : Span) (ns rs : List (List ℕ)) (names : List ℕ) (v : ℕ) {e₀ e₁ : Errors} (p : Listed e₀ (starting_in model ns rs names v) e₁) where
  pub starting_few_lent : (vars : ℕ) → e₀.count + vars < 2 ^ 40 → v ≤ vars → e₁.count < 2 ^ 40
  starting_few_lent vars h l = starting_few model ns rs names _ _ v _ _ p.lists vars h l

  pub starting_next_lent : (es : List Error) → es ≡ state_errors_in model ns rs (get_or names v 0) v → {e₂ : Errors} → Listed e₁ es e₂ → Listed e₀ (starting_in model ns rs names (v + 1)) e₂
  starting_next_lent es e q = record { lists = starting_next model ns rs names _ _ v _ _ p.lists _ _ es e q.lists; same = q.same ∙ p.same }
