-- Chains over numbers in a row, and over the list whose element k is that of number a + k.
use mathlib.Core.Path.{◌≡◌, refl, sym, ap, ap₂, ◌∙◌}
use mathlib.Core.Bool.{Bool, true, false, cond, ◌&&◌, ◌||◌}
use mathlib.Core.List.{List, [], ◌∷◌}
use mathlib.Core.Option.{none, some}
use Prim.Native.Nat.{ℕ, zero, suc, ◌+◌, ◌-◌, ◌≤◌, ◌<◌}
use native.Mathlib.Omega.{arith}
use native.Mathlib.Numerals.{add-one}
use denote.Param.Members.{Mut}
use lib.ListN.{length, get_or}
use Rattle.std.specs.Prelude.{Option, Some, None, MatchOption, IfSome}
use Rattle.std.specs.Option.{IsSomeAnd}
use Rattle.std.specs.Fn.{Called, CalledAt}
use Rattle.std.specs.Iterator.{ChecksAny, FindsPosition, FindsPositionBack, FindsItem, Drains, YieldsThen, AlwaysYields, CallableAtEachTurn}
use Rattle.std.specs.List.{list_any, position_from, find, filter, range_with_len}
use Rattle.std.proofs.iter.Yields.{nat_range_steps}
use Rattle.std.proofs.lemmas.Iterator.{YieldsList, YieldsList-from_range}
use Rattle.std.proofs.lemmas.Iterator.Adapters.{position_from-zero, option_map_id, serves_from_places}
use Rattle.std.specs.Iterator.Adapters.{filter_source, filter_callee, filter_steps, rev_source, rev_steps}
use Rattle.std.proofs.lemmas.Iterator.Consumers.{count_from_yields_List, YieldsList-from_filter}
use Rattle.std.specs.declared.iter.Filter.{Filter}
use Rattle.std.specs.declared.iter.Rev.{Rev}
use denote.Ref.{Bor}
use Rattle.std.proofs.lemmas.Iterator.Search.{any_from_yields_List, position_from_yields_List, find_from_yields_List}
use Rattle.std.specs.declared.ops.Range.{Range}
use Rattle.functions.specs.Lists.{any, place_from, place, plus_one, sum_of, flag}
use Rattle.builder.specs.Starting.{place_as}

-- ---- what a chain over the numbers from a up to b gives

any_both : (q t : ℕ → Bool) (xs : List ℕ) → list_any t (filter q xs) ≡ list_any (λ x. q x && t x) xs
any_both q t [] = refl
any_both q t (x ∷ xs) = go (q x) (any_both q t xs)
  where
    go : (w : Bool) → list_any t (filter q xs) ≡ list_any (λ x. q x && t x) xs → list_any t (cond w (x ∷ filter q xs) (filter q xs)) ≡ (w && t x || list_any (λ x. q x && t x) xs)
    go true e = ap (λ (y : Bool). t x || y) e
    go false e = e

module _ (a b n : ℕ) (l : b ≡ a + n) {F : Type 0} (t : ℕ → Bool) where
  -- whether any passes
  pub any_numbers : {g : Mut F (ℕ × Unit {0}) Bool} {f : F} {s u : Range ℕ} {r : Bool} → s ≡ record { start = a; end = b } → ChecksAny nat_range_steps g s f r u
      → ((x : ℕ) (w : Bool) (k : F) → Called g f (x, tt) w k → (k ≡ f) × (w ≡ t x)) → r ≡ list_any t (range_with_len a n)
  any_numbers {g} {f} {s} {u} {r} e ran calls = any_from_yields_List t u f r ran (YieldsList-from_range a b n e (omega arith)) calls

  -- whether any that a filter lets through passes
  pub any_filtered : {G : Type 0} (q : ℕ → Bool) {h : Mut G (Bor ℕ × Unit {0}) Bool} {e : G} {g : Mut F (ℕ × Unit {0}) Bool} {f : F} {s u : Filter (Range ℕ) G} {r : Bool}
      → filter_source s ≡ record { start = a; end = b } → filter_callee s ≡ e → ChecksAny (filter_steps nat_range_steps h) g s f r u
      → ((x : ℕ) (w : Bool) (k : G) → CalledAt h e x w k → (k ≡ e) × (w ≡ q x)) → ((x : ℕ) (w : Bool) (k : F) → Called g f (x, tt) w k → (k ≡ f) × (w ≡ t x))
      → r ≡ list_any (λ x. q x && t x) (range_with_len a n)
  any_filtered q {h} {e} {g} {f} {s} {u} {r} source callee ran asks calls =
      any_from_yields_List {v = λ x. x} t u f r ran (YieldsList-from_filter h q (YieldsList-from_range a b n source (omega arith)) callee asks) calls ∙ any_both q t (range_with_len a n)

  -- how many a filter lets through
  pub count_filtered : {g : Mut F (Bor ℕ × Unit {0}) Bool} {f : F} {s : Filter (Range ℕ) F} {r : ℕ} → filter_source s ≡ record { start = a; end = b } → filter_callee s ≡ f
      → ((ns : List ℕ) × Drains (filter_steps nat_range_steps g) s ns × (r ≡ length ns)) → ((x : ℕ) (w : Bool) (k : F) → CalledAt g f x w k → (k ≡ f) × (w ≡ t x)) → r ≡ length (filter t (range_with_len a n))
  count_filtered {g} {f} {s} {r} source callee ran asks = count_from_yields_List {v = λ x. x} s r ran (YieldsList-from_filter g t (YieldsList-from_range a b n source (omega arith)) callee asks)

-- ---- the same of a list: t says of number a + k what p says of element k

module _ {A : Type 0} (t : ℕ → Bool) (p : A → Bool) (d : A) where
  abbrev Says : ℕ → List A → Type 0
  Says a xs = (k : ℕ) → k < length xs → t (a + k) ≡ p (get_or xs k d)

  here : (a : ℕ) (x : A) (xs : List A) → Says a (x ∷ xs) → t a ≡ p x
  here a x xs h = let z : a + 0 ≡ a = omega arith in rw z at (h 0 (omega arith))

  behind : (a : ℕ) (x : A) (xs : List A) → Says a (x ∷ xs) → Says (a + 1) xs
  behind a x xs h k l = let e : a + 1 + k ≡ a + suc k = omega arith in ap t e ∙ h (suc k) (omega arith)

  pub any_along : (a : ℕ) (xs : List A) → Says a xs → list_any t (range_with_len a (length xs)) ≡ any p xs
  unfolding any
  any_along a [] h = refl
  any_along a (x ∷ xs) h = ap₂ ◌||◌ (here a x xs h) (any_along (a + 1) xs (behind a x xs h))

  pub count_along : (a : ℕ) (xs : List A) → Says a xs → length (filter t (range_with_len a (length xs))) ≡ sum_of (λ x. flag (p x)) xs
  unfolding sum_of flag
  count_along a [] h = refl
  count_along a (x ∷ xs) h = rw (here a x xs h) (go (p x) (count_along (a + 1) xs (behind a x xs h)))
    where
      go : (b : Bool) → length (filter t (range_with_len (a + 1) (length xs))) ≡ sum_of (λ x. flag (p x)) xs
          → length (cond b (a ∷ filter t (range_with_len (a + 1) (length xs))) (filter t (range_with_len (a + 1) (length xs)))) ≡ flag b + sum_of (λ x. flag (p x)) xs
      go true e = omega (arith, e)
      go false e = omega (arith, e)

  first_along : (a i : ℕ) (xs : List A) → Says a xs → MatchOption (position_from t i (range_with_len a (length xs))) (place_from i p xs ≡ none) (λ k. place_from i p xs ≡ some k)
  unfolding place_from
  first_along a i [] h = refl
  first_along a i (x ∷ xs) h = rw (here a x xs h, add-one i) (go (p x) (rw (add-one i) at (first_along (a + 1) (i + 1) xs (behind a x xs h))))
    where
      go : (b : Bool) → MatchOption (position_from t (suc i) (range_with_len (a + 1) (length xs))) (place_from (suc i) p xs ≡ none) (λ k. place_from (suc i) p xs ≡ some k)
          → MatchOption (cond b (Some i) (position_from t (suc i) (range_with_len (a + 1) (length xs)))) (cond b (some i) (place_from (suc i) p xs) ≡ none) (λ k. cond b (some i) (place_from (suc i) p xs) ≡ some k)
      go true m = refl
      go false m = m

  -- the place of the first that passes
  pub first_over : {F : Type 0} {g : Mut F (ℕ × Unit {0}) Bool} {f : F} {s u : Range ℕ} {r : Option ℕ} (n : ℕ) (xs : List A) → n ≡ length xs → s ≡ record { start = 0; end = n } → FindsPosition nat_range_steps g s f r u
      → ((x : ℕ) (w : Bool) (k : F) → Called g f (x, tt) w k → (k ≡ f) × (w ≡ t x)) → ((k : ℕ) → k < length xs → t k ≡ p (get_or xs k d)) → place_as r ≡ place p xs
  unfolding place place_as
  first_over {F} {g} {f} {s} {u} {r} n xs l e ran calls h =
      let z : r ≡ position_from t 0 (range_with_len 0 (length xs)) = position_from_yields_List t u f r ran (YieldsList-from_range 0 n (length xs) e (omega arith)) calls ∙ position_from-zero t (range_with_len 0 (length xs)) in
      go r (rw (sym z) at (first_along 0 0 xs (λ k m. let same : 0 + k ≡ k = omega arith in ap t same ∙ h k m)))
    where
      go : (o : Option ℕ) → MatchOption o (place_from 0 p xs ≡ none) (λ k. place_from 0 p xs ≡ some k) → place_as o ≡ place_from 0 p xs
      go None z = sym z
      go (Some k) z = sym z

-- ---- a place as a word: plus 1, and 0 where there is none

pub word_of_place : (r : Option ℕ) (w : ℕ) (Gives : ℕ → Type 0) → MatchOption r (w ≡ 0) Gives → ((k : ℕ) → Gives k → w ≡ k + 1) → w ≡ plus_one (place_as r)
unfolding place_as plus_one
word_of_place None w Gives given gives = given
word_of_place (Some k) w Gives given gives = gives k given ∙ add-one k

-- what is below n
pub place_within : (r : Option ℕ) (n : ℕ) → plus_one (place_as r) ≤ n → IfSome r (λ k. k < n)
unfolding place_as plus_one
place_within None n h = tt
place_within (Some k) n h = omega (arith, h)

-- ---- a range from behind

-- n numbers down to a
abbrev pub downward : ℕ → ℕ → List ℕ
downward a zero = []
downward a (suc n) = (a + n) ∷ downward a n

-- what its `next_back` gives
abbrev back_steps : Range ℕ → Option ℕ → Range ℕ → Type 0
back_steps s r t = (t.start ≡ s.start) × MatchOption r ((s.end - s.start ≡ 0) × (t.end ≡ s.end)) (λ x. (0 < s.end - s.start) × (x ≡ t.end) × (s.end ≡ t.end + 1))

downward_gives : (a n : ℕ) (s : Range ℕ) → s.start ≡ a → s.end ≡ a + n → AlwaysYields back_steps (λ x. x) s (downward a n)
downward_gives a zero s e g = λ x j p. omega (arith, e, g, p.1.0)
downward_gives a (suc n) s e g = (λ j p. omega (arith, e, g, p.1.0), λ x j p. (omega (arith, g, p.1.1, p.1.2), downward_gives a n j (p.0 ∙ e) (omega (arith, g, p.1.2))))

-- what an iterator gives from behind, its `rev` gives
rev_gives : {S A B : Type 0} (steps : S → Option A → S → Type 0) (v : A → B) (ys : List B) (s : Rev S) → AlwaysYields steps v (rev_source s) ys → AlwaysYields (rev_steps steps) v s ys
rev_gives steps v [] s g = λ x j p. g x (rev_source j) p
rev_gives steps v (y ∷ ys) s g = (λ j p. g.0 (rev_source j) p, λ x j p. let (e, h) = g.1 x (rev_source j) p in (e, rev_gives steps v ys j h))

-- each of them
downward_within : (a n k d : ℕ) → k < length (downward a n) → (a ≤ get_or (downward a n) k d) × (get_or (downward a n) k d < a + n)
downward_within a zero k d h = absurd (omega arith)
downward_within a (suc n) zero d h = (omega arith, omega arith)
downward_within a (suc n) (suc k) d h = let (l, u) = downward_within a n k d (omega arith) in (l, omega (arith, u))

-- the place, from a on, of the last of n numbers that passes
abbrev pub last_place : (ℕ → Bool) → ℕ → ℕ → Option ℕ
last_place t a zero = None
last_place t a (suc n) = cond (t (a + n)) (Some n) (last_place t a n)

-- the first from behind stands there
abbrev StandsAt : (ℕ → Bool) → ℕ → ℕ → ℕ → Option ℕ → Type 0
StandsAt t a n m o = MatchOption o (last_place t a n ≡ None) (λ k. (j : ℕ) × (last_place t a n ≡ Some j) × (j + 1 + k ≡ m))

behind_first : (t : ℕ → Bool) (a i n : ℕ) → StandsAt t a n (n + i) (position_from t i (downward a n))
behind_first t a i zero = refl
behind_first t a i (suc n) = let e : n + (i + 1) ≡ suc n + i = omega arith in go (t (a + n)) (rw e at (behind_first t a (i + 1) n))
  where
    go : (b : Bool) → StandsAt t a n (suc n + i) (position_from t (i + 1) (downward a n))
        → MatchOption (cond b (Some i) (position_from t (i + 1) (downward a n))) (cond b (Some n) (last_place t a n) ≡ None) (λ k. (j : ℕ) × (cond b (Some n) (last_place t a n) ≡ Some j) × (j + 1 + k ≡ suc n + i))
    go true m = (n, refl, omega arith)
    go false m = m

module _ (a b n : ℕ) (l : b ≡ a + n) where
  pub back_list : {s : Range ℕ} → s ≡ record { start = a; end = b } → YieldsList back_steps (λ x. x) s (downward a n)
  back_list e = record { runs = downward_gives a n _ (ap (λ (r : Range ℕ). r.start) e) (ap (λ (r : Range ℕ). r.end) e ∙ l) }

  pub rev_list : {s : Rev (Range ℕ)} → rev_source s ≡ record { start = a; end = b } → YieldsList (rev_steps back_steps) (λ x. x) s (downward a n)
  rev_list {s} e = record { runs = rev_gives back_steps (λ x. x) (downward a n) s (back_list e).runs }

  -- a closure may be asked about each number
  pub serves_downward : {S F : Type 0} {steps : S → Option ℕ → S → Type 0} {R : F → ℕ → F → Type 0} {Q : F → ℕ → Type 0} {s : S} {f : F} → YieldsList steps (λ x. x) s (downward a n) → ((x : ℕ) (q : F) → R f x q → q ≡ f) → ((x : ℕ) → a ≤ x → x < b → Q f x)
      → CallableAtEachTurn steps R Q s f
  serves_downward list keeps asks = serves_from_places list keeps (λ x k h z. let (u, v) = downward_within a n k x h in asks x (omega (arith, u, z)) (omega (arith, v, z)))

  module _ {F : Type 0} (t : ℕ → Bool) where
    -- the last that passes
    pub last_over : {g : Mut F (Bor ℕ × Unit {0}) Bool} {f : F} {s : Rev (Range ℕ)} (u : Rev (Range ℕ)) {r : Option ℕ} → rev_source s ≡ record { start = a; end = b } → FindsItem (rev_steps back_steps) g s f r u
        → ((x : ℕ) (w : Bool) (k : F) → CalledAt g f x w k → (k ≡ f) × (w ≡ t x)) → r ≡ find t (downward a n)
    last_over {g} {f} {s} u {r} e ran calls = sym (option_map_id r) ∙ find_from_yields_List {v = λ x. x} t u f r ran (rev_list e) calls

    -- its place
    pub last_place_over : {g : Mut F (ℕ × Unit {0}) Bool} {f : F} {s : Range ℕ} (u : Range ℕ) {r : Option ℕ} → s ≡ record { start = a; end = b } → FindsPositionBack back_steps g s f n r u
        → ((x : ℕ) (w : Bool) (k : F) → Called g f (x, tt) w k → (k ≡ f) × (w ≡ t x)) → r ≡ last_place t a n
    last_place_over {g} {f} {s} u {r} e (xs, o, f', ran, fold, ends) calls = go o r ran ends
      where
        at : (q : Option ℕ) → FindsPosition back_steps g s f q u → StandsAt t a n (n + 0) q
        at q found = let z : q ≡ position_from t 0 (downward a n) = position_from_yields_List t u f q found (back_list e) calls ∙ position_from-zero t (downward a n) in rw (sym z) at (behind_first t a 0 n)

        go : (o r : Option ℕ) → YieldsThen back_steps s xs o u → MatchOption o (r ≡ None) (λ x. IsSomeAnd r (λ i. i + 1 + length xs ≡ n) × ((h : F) × Called g f' (x, tt) true h)) → r ≡ last_place t a n
        go None r ran ends = ends ∙ sym (at None (xs, None, f', ran, fold, refl))
        go (Some x) None ran ends = absurd ends.0
        go (Some x) (Some i) ran ends =
            let (j, q, k) = at (Some (length xs)) (xs, Some x, f', ran, fold, (refl, ends.1)) in
            let same : i ≡ j = omega (arith, ends.0, k) in
            ap Some same ∙ sym q
