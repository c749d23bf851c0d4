-- What the code's tables say of fates is what the definitions say: the states that lack an equation, and the records that hold fates.
use mathlib.Core.Path.{◌≡◌, refl, sym, ap, ap₂, ◌∙◌}
use mathlib.Core.Bool.{Bool, true, false, cond, not, ◌&&◌}
use mathlib.Core.List.{List, [], ◌∷◌, ◌++◌, map, append-nil, append_assoc}
use mathlib.Core.Option.{Option, some}
use Prim.Native.Nat.{ℕ, zero, suc, ◌+◌, min, ◌≤◌, ◌<◌}
use native.Mathlib.Omega.{arith}
use Rattle.std.proofs.lemmas.Bool.Decides.{nat_tests}
use lib.Dec.{eqb}
use lib.ListN.{length, take, get_or}
use Rattle.functions.specs.Lists.{any, keep, place, place_from, times, flag, plus_one}
use Rattle.functions.proofs.Lists.{clash}
use Rattle.ast.specs.Tree.{Flat, equation, rate, flat_size}
use Rattle.ast.specs.Words.{word_of}
use Rattle.definitions.specs.Variables.{Variable, at, is_state}
use Rattle.definitions.specs.Roles.{Role, starts, rates, free}
use Rattle.definitions.specs.Allocate.{Fate, initial, held, replaced, left_over, is_rate_of, rate_fate, fates_of, numbers_from, lacking, is_held_by, is_initial_of, held_by, conditions}
use Rattle.definitions.specs.Answer.{fate_number, fate_variable, flat_words, flat_records}
use Rattle.builder.specs.Tables.{lacks_in, lacking_in}
use Rattle.builder.specs.Fating.{fate_pair, with_fate, fated, is_fated}

-- ---- tests of numbers

pub eqb_turn : (a b : ℕ) → eqb a b ≡ eqb b a
eqb_turn a b = grind (arith, nat_tests)

-- ---- the states that lack an equation

-- a table that has 1 for each variable that is a state
pub record Beginning (vs : List Variable) (table : List ℕ) : Type 0 where
  pub states : (v : ℕ) → v < length vs → eqb (get_or table v 0) 1 ≡ is_state (at vs v)

module _ (p : ℕ → Bool) where
  -- the numbers below n that pass
  passing : ℕ → List ℕ
  passing zero = []
  passing (suc n) = passing n ++ cond (p n) (n ∷ []) []

  passing_keep : (vs : List Variable) (i : ℕ) → passing i ++ keep p (numbers_from i vs) ≡ passing (i + length vs)
  unfolding keep numbers_from passing
  passing_keep [] i =
      let e : i ≡ i + 0 = omega arith in
      append-nil (passing i) ∙ ap passing e
  passing_keep (x ∷ vs) i =
      let e : suc i + length vs ≡ i + suc (length vs) = omega arith in
      by (p i) refl ∙ passing_keep vs (suc i) ∙ ap passing e
    where
      by : (t : Bool) → p i ≡ t → passing i ++ cond t (i ∷ keep p (numbers_from (suc i) vs)) (keep p (numbers_from (suc i) vs)) ≡ (passing i ++ cond (p i) (i ∷ []) []) ++ keep p (numbers_from (suc i) vs)
      by true e = rw e (sym (append_assoc (passing i) (i ∷ []) (keep p (numbers_from (suc i) vs))))
      by false e = rw (e, append-nil) refl

  -- the code's list, where it tests the same
  lacking_passing : (roles : List Role) (states : List ℕ) (n : ℕ) → ((v : ℕ) → v < n → lacks_in roles states v ≡ p v) → lacking_in roles states n ≡ passing n
  unfolding lacking_in passing
  lacking_passing roles states zero h = refl
  lacking_passing roles states (suc n) h =
      ap₂ ◌++◌ (lacking_passing roles states n (λ v l. h v (omega arith))) (ap (λ (t : Bool). cond t (n ∷ []) []) (h n (omega arith)))

-- The states that lack an equation, by the table.
pub lacking_tabled : (vs : List Variable) (rs : List Role) (states : List ℕ) → Beginning vs states → lacking_in rs states (length vs) ≡ lacking vs rs
unfolding lacking lacks_in passing
lacking_tabled vs rs states b =
    let z : 0 + length vs ≡ length vs = omega arith in
    lacking_passing test rs states (length vs) (λ v h. rw (b.states v h) refl) ∙ sym (passing_keep test vs 0 ∙ ap (passing test) z)
  where
    test : ℕ → Bool
    test v = is_state (at vs v) && not (any (is_rate_of v) rs)

-- ---- records that hold fates

-- words 6 and 7 of a record
abbrev pub record_pair : List ℕ → ℕ × ℕ
record_pair r = (word_of r 6, word_of r 7)

-- tests of the two numbers and of the fate
held_number : (v : ℕ) (x : Fate) → eqb (fate_number x) 2 && eqb (fate_variable x) v ≡ is_held_by v x
unfolding fate_number fate_variable is_held_by
held_number v (initial u) = refl
held_number v (held u) = eqb_turn u v
held_number v (replaced u) = refl
held_number v left_over = refl

initial_number : (v : ℕ) (x : Fate) → eqb (fate_number x) 1 && eqb (fate_variable x) v ≡ is_initial_of v x
unfolding fate_number fate_variable is_initial_of
initial_number v (initial u) = eqb_turn u v
initial_number v (held u) = refl
initial_number v (replaced u) = refl
initial_number v left_over = refl

module _ {A B C : Type 0} (f : A → C) (g : B → C) (p : A → Bool) (q : B → Bool) (t : C → Bool) (ps : (a : A) → p a ≡ t (f a)) (qs : (b : B) → q b ≡ t (g b)) where
  -- lists that are the same where the tests look
  place_same : (k : ℕ) (xs : List A) (ys : List B) → map f xs ≡ map g ys → place_from k p xs ≡ place_from k q ys
  unfolding place_from
  place_same k [] [] e = refl
  place_same k [] (y ∷ ys) e = clash (cc)
  place_same k (x ∷ xs) [] e = clash (cc)
  place_same k (x ∷ xs) (y ∷ ys) e =
      let h : f x ≡ g y = cc in
      let s : p x ≡ q y = ps x ∙ ap t h ∙ sym (qs y) in
      ap₂ (λ (b : Bool) (o : Option ℕ). cond b (some k) o) s (place_same (suc k) xs ys (cc))

  times_same : (xs : List A) (ys : List B) → map f xs ≡ map g ys → times p xs ≡ times q ys
  unfolding times
  times_same [] [] e = refl
  times_same [] (y ∷ ys) e = clash (cc)
  times_same (x ∷ xs) [] e = clash (cc)
  times_same (x ∷ xs) (y ∷ ys) e =
      let h : f x ≡ g y = cc in
      let s : p x ≡ q y = ps x ∙ ap t h ∙ sym (qs y) in
      ap₂ (λ (b : Bool) (n : ℕ). flag b + n) s (times_same xs ys (cc))

length_keep : {A : Type 0} (p : A → Bool) (xs : List A) → length (keep p xs) ≡ times p xs
unfolding keep times flag
length_keep p [] = refl
length_keep p (x ∷ xs) = by (p x) (length_keep p xs)
  where
    by : (b : Bool) → length (keep p xs) ≡ times p xs → length (cond b (x ∷ keep p xs) (keep p xs)) ≡ flag b + times p xs
    by true e = omega arith
    by false e = omega arith

module _ (rs : List (List ℕ)) (fs : List Fate) (same : map record_pair rs ≡ map fate_pair fs) (v : ℕ) where
  -- a pair of numbers by its fate and variable
  is : ℕ → ℕ × ℕ → Bool
  is n x = eqb x.0 n && eqb x.1 v

  pub held_in_lem : plus_one (place (is_fated 2 v) rs) ≡ held_by fs v
  unfolding held_by place is_fated is
  held_in_lem = ap plus_one (place_same record_pair fate_pair (is_fated 2 v) (is_held_by v) (is 2) (λ r. refl) (λ x. sym (held_number v x)) 0 rs fs same)

  pub held_place_in : place (is_fated 2 v) rs ≡ place (is_held_by v) fs
  unfolding place is_fated is
  held_place_in = place_same record_pair fate_pair (is_fated 2 v) (is_held_by v) (is 2) (λ r. refl) (λ x. sym (held_number v x)) 0 rs fs same

  pub initial_in : place (is_fated 1 v) rs ≡ place (is_initial_of v) fs
  unfolding place is_fated is
  initial_in = place_same record_pair fate_pair (is_fated 1 v) (is_initial_of v) (is 1) (λ r. refl) (λ x. sym (initial_number v x)) 0 rs fs same

  pub conditions_in : times (is_fated 1 v) rs ≡ conditions fs v
  unfolding conditions is_fated is
  conditions_in =
      times_same record_pair fate_pair (is_fated 1 v) (is_initial_of v) (is 1) (λ r. refl) (λ x. sym (initial_number v x)) rs fs same
      ∙ sym (length_keep (is_initial_of v) fs)

-- ---- records with their fates written in

-- of one statement
with_fate_lem : (first : ℕ) (q : Flat) (x : Fate) (r : List ℕ) → take 6 r ≡ take 6 (flat_words first q x) → with_fate r (fate_pair x) ≡ flat_words first q x
unfolding with_fate flat_words
with_fate_lem first (equation l m s) x r t = ap (λ (ws : List ℕ). ws ++ (fate_number x ∷ fate_variable x ∷ [])) t
with_fate_lem first (rate n m s) x r t = ap (λ (ws : List ℕ). ws ++ (fate_number x ∷ fate_variable x ∷ [])) t

-- the words that are not fates stand, and these are the fates
pub fated_flats : (first : ℕ) (rs : List (List ℕ)) (qs : List Flat) (fs : List Fate) → map (take 6) rs ≡ map (take 6) (flat_records first qs fs) → length fs ≡ length qs
    → fated rs (map fate_pair fs) ≡ flat_records first qs fs
unfolding fated flat_records
fated_flats first [] [] fs e h = refl
fated_flats first (r ∷ rs) [] fs e h = clash (cc)
fated_flats first rs (q ∷ qs) [] e h = absurd (omega arith)
fated_flats first [] (q ∷ qs) (x ∷ fs) e h = clash (cc)
fated_flats first (r ∷ rs) (q ∷ qs) (x ∷ fs) e h =
    let t : take 6 r ≡ take 6 (flat_words first q x) = cc in
    ap₂ ◌∷◌ (with_fate_lem first q x r t) (fated_flats (first + flat_size q) rs qs fs (cc) (omega arith))

-- ---- states behind as many as there are roles are not looked at

pub fates_take : (k : ℕ) (queue : List ℕ) (rs : List Role) → min (length queue) (length rs) ≤ k → fates_of (take k queue) rs ≡ fates_of queue rs
unfolding fates_of
fates_take k queue [] h = refl
fates_take k queue (starts v ∷ rs) h = ap (λ fs. initial v ∷ fs) (fates_take k queue rs (omega arith))
fates_take k queue (rates v ∷ rs) h = ap (λ fs. rate_fate (any (is_rate_of v) rs) v ∷ fs) (fates_take k queue rs (omega arith))
fates_take zero [] (free ∷ rs) h = refl
fates_take zero (v ∷ queue) (free ∷ rs) h = absurd (omega arith)
fates_take (suc k) [] (free ∷ rs) h = refl
fates_take (suc k) (v ∷ queue) (free ∷ rs) h = ap (λ fs. held v ∷ fs) (fates_take k queue rs (omega arith))
