-- Counts of elements that pass a test: of lists joined, of a list's front, of the places below a number.
use mathlib.Core.Path.{◌≡◌, refl, sym, ap₂, ◌∙◌}
use mathlib.Core.Bool.{Bool, false}
use mathlib.Core.List.{List, [], ◌∷◌, ◌++◌}
use Prim.Native.Nat.{ℕ, zero, suc, ◌+◌, ◌≤◌, ◌<◌}
use native.Mathlib.Omega.{arith}
use lib.ListN.{take}
use Rattle.functions.specs.Lists.{times, flag}
use Rattle.positions.specs.Positions.{below}

module _ {A : Type 0} where
  pub times_append : (p : A → Bool) (xs ys : List A) → times p (xs ++ ys) ≡ times p xs + times p ys
  unfolding times
  times_append p [] ys = omega arith
  times_append p (x ∷ xs) ys = omega (arith, times_append p xs ys)

  -- a longer front has no fewer
  pub times_front : (p : A → Bool) (m n : ℕ) (xs : List A) → m ≤ n → times p (take m xs) ≤ times p (take n xs)
  unfolding times
  times_front p zero n xs h = omega arith
  times_front p (suc m) zero xs h = absurd (omega arith)
  times_front p (suc m) (suc n) [] h = omega arith
  times_front p (suc m) (suc n) (x ∷ xs) h = omega (arith, times_front p m n xs (omega arith))

-- tests that agree on the places below n
pub times_same : (p q : ℕ → Bool) (n : ℕ) → ((j : ℕ) → j < n → p j ≡ q j) → times p (below n) ≡ times q (below n)
unfolding below times
times_same p q zero h = refl
times_same p q (suc n) h =
    times_append p (below n) (n ∷ [])
    ∙ ap₂ ◌+◌ (times_same p q n (λ j l. h j (omega arith))) (one (h n (omega arith)))
    ∙ sym (times_append q (below n) (n ∷ []))
  where
    one : p n ≡ q n → times p (n ∷ []) ≡ times q (n ∷ [])
    one e = rw e

-- a test that no place below n passes
pub times_none : (p : ℕ → Bool) (n : ℕ) → ((j : ℕ) → j < n → p j ≡ false) → times p (below n) ≡ 0
unfolding below times flag
times_none p n h = times_same p (λ j. false) n h ∙ never n
  where
    never : (n : ℕ) → times (λ j. false) (below n) ≡ 0
    never zero = refl
    never (suc n) = times_append (λ j. false) (below n) (n ∷ []) ∙ omega (arith, never n)
