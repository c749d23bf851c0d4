-- Decimals: the fewest digits that hold a number are its decimal, and no byte of one is a newline.
use mathlib.Core.Path.{◌≡◌, refl, ap₂, ◌∙◌}
use mathlib.Core.Bool.{Bool, true, false, cond}
use mathlib.Core.List.{[], ◌∷◌, ◌++◌}
use Prim.Native.Nat.{ℕ, zero, suc, ◌+◌, ◌-◌, ◌*◌, ◌/◌, ◌%◌, ◌^◌, ◌≤◌, ◌<◌}
use native.Mathlib.Omega.{arith}
use native.Mathlib.Numerals.{unary_clauses}
use native.Mathlib.Nat.{pow-suc, one-le-pow, pow-le-pow_right}
use borrow.Author.Tests.{lt-ltb, le-ltb, ne_eqb, leb-true, leb-false}
use lib.Dec.{leb, ltb}
use Rattle.io.specs.Digits.{hex_digit_ascii, last_digits, IsDigitCount}
use Rattle.functions.specs.Lists.{flag, times}
use Rattle.positions.specs.Positions.{is_newline}
use Rattle.positions.proofs.Counting.{times_append}
use Rattle.report.specs.Decimals.{digit, digits_within, most_digits, decimal}

-- ---- the fewest digits

-- a digit's byte
glyph_is : (d : ℕ) → d < 10 → hex_digit_ascii d ≡ digit d
glyph_is d h = rw (lt-ltb d 10 h) refl

-- The last k digits of n are all of it, in a decimal of at most m, where k are the fewest that hold it.
digits_are : (m k n : ℕ) → k ≤ m → IsDigitCount 10 1 n k → last_digits 10 k n ≡ digits_within m n
unfolding digits_within
digits_are m zero n l (some, below, above) = absurd (omega arith)
digits_are zero (suc k) n l f = absurd (omega arith)
digits_are (suc m) (suc zero) n l (some, below, above) =
    let s : n % 10 ≡ n = omega arith in
    rw (lt-ltb n 10 (omega arith), s, lt-ltb n 10 (omega arith)) refl
digits_are (suc m) (suc (suc k)) n l (some, below, above) =
    let p : 10 ^ suc k ≡ 10 ^ k * 10 = pow-suc 10 k in
    let q : 10 ^ suc (suc k) ≡ 10 ^ suc k * 10 = pow-suc 10 (suc k) in
    let o : 1 ≤ 10 ^ k = one-le-pow k 10 (omega arith) in
    let a : 10 ^ suc k ≤ n = rw p (simp unary_clauses at (above (omega arith))) in
    let b : n < 10 ^ suc (suc k) = below in
    let fewer : IsDigitCount 10 1 (n / 10) (suc k) = (omega arith, omega arith, λ h. simp unary_clauses (omega arith)) in
    rw (le-ltb n 10 (omega arith), glyph_is (n % 10) (omega arith), digits_are m (suc k) (n / 10) (omega arith) fewer) refl

-- The fewest digits that hold n are its decimal.
pub decimal_is : (n k : ℕ) → IsDigitCount 10 1 n k → k ≤ most_digits → last_digits 10 k n ≡ decimal n
unfolding decimal
decimal_is n k f l = digits_are most_digits k n l f

-- A number of 64 bits has at most 20.
pub few_digits : (n k : ℕ) → n < 2 ^ 64 → IsDigitCount 10 1 n k → k ≤ most_digits
few_digits n k h (some, below, above) = go (leb k most_digits) refl
  where
    go : (b : Bool) → leb k most_digits ≡ b → k ≤ most_digits
    go true e = leb-true k most_digits e
    go false e =
        let l : most_digits < k = leb-false k most_digits e in
        let ten : 0 < 10 = omega arith in
        let o : most_digits ≤ k - 1 = omega arith in
        let m : 10 ^ most_digits ≤ 10 ^ (k - 1) = pow-le-pow_right ten o in
        absurd (omega (arith, above (omega arith)))

-- ---- newlines

-- a digit's byte is none
no_newline : (d : ℕ) → times is_newline (digit d ∷ []) ≡ 0
unfolding times flag
no_newline d = rw (ne_eqb (digit d) 10 (λ e. omega arith)) refl

within_newlines : (m n : ℕ) → times is_newline (digits_within m n) ≡ 0
unfolding digits_within
within_newlines zero n = unfold times in refl
within_newlines (suc m) n = go (ltb n 10) (within_newlines m (n / 10))
  where
    go : (b : Bool) → times is_newline (digits_within m (n / 10)) ≡ 0 → times is_newline (cond b (digit n ∷ []) (digits_within m (n / 10) ++ digit (n % 10) ∷ [])) ≡ 0
    go true h = no_newline n
    go false h = times_append is_newline (digits_within m (n / 10)) (digit (n % 10) ∷ []) ∙ ap₂ ◌+◌ h (no_newline (n % 10))

-- No byte of a decimal is a newline.
pub decimal_digits : (n : ℕ) → times is_newline (decimal n) ≡ 0
unfolding decimal
decimal_digits n = within_newlines most_digits n
