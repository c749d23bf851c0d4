-- Words of bytes from a place up to another, and the last t among them.
use mathlib.Core.Path.{◌≡◌, refl, sym, ap, ◌∙◌}
use mathlib.Core.Bool.{Bool, true, false, cond}
use mathlib.Core.List.{List, [], ◌∷◌, ◌++◌}
use mathlib.Core.Option.{Option, none, some}
use Prim.Native.Nat.{ℕ, zero, suc, ◌+◌, ◌-◌, ◌*◌, ◌≤◌, ◌<◌}
use native.Mathlib.Omega.{arith}
use borrow.Author.Tests.{ltb-true, eqb-true, eqb-false}
use lib.Dec.{eqb, ltb}
use lib.ListN.{length, take, drop, get_or, length-take, length-drop}
use lib.Seq.{get_or-take, get_or-drop, length-take-le, take-suc, take_all}
use Rattle.std.specs.Prelude.{Some}
use Rattle.functions.specs.Lists.{any, all}
use Rattle.functions.proofs.Lists.{and_both}
use Rattle.ast.specs.Words.{words}
use Rattle.ast.specs.Bytes.{word_at}
use Rattle.ast.proofs.Fields.{dep_at, length_deps}
use Rattle.definitions.specs.Variables.{last_time}
use Rattle.builder.specs.VariableTables.{words_from}
use Rattle.builder.specs.Starting.{place_as}
use Rattle.builder.proofs.laws.Ranges.{last_place}

-- ---- words from `first` up to `end`

module _ (bytes : List ℕ) (first end : ℕ) (order : first ≤ end) (room : 4 * end ≤ length bytes) where
  enough : end ≤ length (words bytes)
  enough = omega (arith, length_deps bytes 0 end (omega arith), length-take end (words bytes))

  -- how many
  pub length_from : length (words_from bytes first end) ≡ end - first
  unfolding words_from
  length_from = length-take-le (end - first) (drop first (words bytes)) (simp length-drop (omega (arith, enough)))

  -- each of them
  pub word_from : (i : ℕ) → first ≤ i → i < end → get_or (words_from bytes first end) (i - first) 0 ≡ word_at bytes (4 * i)
  unfolding words_from
  word_from i l h =
      let a : i - first < end - first = omega arith in
      let b : first + (i - first) ≡ i = omega arith in
      let d : 0 + 4 * i ≡ 4 * i = omega arith in
      get_or-take (end - first) (drop first (words bytes)) (i - first) 0 a
      ∙ get_or-drop first (words bytes) (i - first) 0
      ∙ ap (λ (n : ℕ). get_or (words bytes) n 0) b
      ∙ sym (get_or-take end (words bytes) i 0 h)
      ∙ dep_at bytes 0 end i h (omega arith)
      ∙ ap (word_at bytes) d

-- ---- the last t

-- a t behind the others is the last
time_behind : (xs : List ℕ) (i : ℕ) (o : Option ℕ) → last_time i o (xs ++ 0 ∷ []) ≡ some (i + length xs)
unfolding last_time
time_behind [] i o = ap some (omega arith)
time_behind (zero ∷ xs) i o = time_behind xs (suc i) (some i) ∙ ap some (omega arith)
time_behind (suc x ∷ xs) i o = time_behind xs (suc i) o ∙ ap some (omega arith)

-- another variable behind them is not
other_behind : (xs : List ℕ) (y i : ℕ) (o : Option ℕ) → last_time i o (xs ++ suc y ∷ []) ≡ last_time i o xs
unfolding last_time
other_behind [] y i o = refl
other_behind (zero ∷ xs) y i o = other_behind xs y (suc i) (some i)
other_behind (suc x ∷ xs) y i o = other_behind xs y (suc i) o

not_zero : (xs : List ℕ) (y : ℕ) → (y ≡ 0 → ⊥) → last_time 0 none (xs ++ y ∷ []) ≡ last_time 0 none xs
not_zero xs zero h = absurd (h refl)
not_zero xs (suc y) h = other_behind xs y 0 none

module _ (bytes : List ℕ) (first end : ℕ) (order : first ≤ end) (room : 4 * end ≤ length bytes) where
  abbrev before : ℕ → List ℕ
  before n = take n (words_from bytes first end)

  module _ (n : ℕ) (h : n < end - first) where
    last_word : before (suc n) ≡ before n ++ word_at bytes (4 * (first + n)) ∷ []
    last_word =
        let c : first + n - first ≡ n = omega arith in
        let w = rw c at (word_from bytes first end order room (first + n) (omega arith) (omega arith)) in
        take-suc (words_from bytes first end) n 0 (omega (arith, length_from bytes first end order room)) ∙ ap (λ (x : ℕ). before n ++ x ∷ []) w

    -- the last of the words up to it is t
    pub time_found : eqb (word_at bytes (4 * (first + n))) 0 ≡ true → last_time 0 none (before (suc n)) ≡ some n
    time_found e =
        let l : length (before n) ≡ n = length-take-le n (words_from bytes first end) (omega (arith, length_from bytes first end order room)) in
        ap (last_time 0 none) (last_word ∙ ap (λ (w : ℕ). before n ++ w ∷ []) (eqb-true (word_at bytes (4 * (first + n))) 0 e)) ∙ time_behind (before n) 0 none ∙ ap some (omega (arith, l))

    -- or is not
    pub time_passed : eqb (word_at bytes (4 * (first + n))) 0 ≡ false → last_time 0 none (before (suc n)) ≡ last_time 0 none (before n)
    time_passed e = ap (last_time 0 none) last_word ∙ not_zero (before n) (word_at bytes (4 * (first + n))) (eqb-false (word_at bytes (4 * (first + n))) 0 e)

  -- the last t of the first n words
  abbrev pub time_at : ℕ → Bool
  time_at i = eqb (word_at bytes (4 * i)) 0

  last_before : (n : ℕ) → n ≤ end - first → place_as (last_place time_at first n) ≡ last_time 0 none (before n)
  unfolding place_as last_time
  last_before zero h = refl
  last_before (suc n) h = go (time_at (first + n)) refl (last_before n (omega arith))
    where
      go : (b : Bool) → time_at (first + n) ≡ b → place_as (last_place time_at first n) ≡ last_time 0 none (before n) → place_as (cond b (Some n) (last_place time_at first n)) ≡ last_time 0 none (before (suc n))
      go true e i = sym (time_found n (omega arith) e)
      go false e i = i ∙ sym (time_passed n (omega arith) e)

  -- of all
  pub last_of_all : place_as (last_place time_at first (end - first)) ≡ last_time 0 none (words_from bytes first end)
  last_of_all = last_before (end - first) (omega arith) ∙ ap (last_time 0 none) (take_all (end - first) (words_from bytes first end) (omega (arith, length_from bytes first end order room)))

-- two tests that agree on the elements
pub any_alike : (p q : ℕ → Bool) (n : ℕ) (xs : List ℕ) → all (λ d. ltb d n) xs ≡ true → ((d : ℕ) → d < n → p d ≡ q d) → any p xs ≡ any q xs
unfolding any all
any_alike p q n [] h e = refl
any_alike p q n (x ∷ xs) h e =
    let (a, b) = and_both (ltb x n) _ h in
    rw (e x (ltb-true x n a), any_alike p q n xs b e)
