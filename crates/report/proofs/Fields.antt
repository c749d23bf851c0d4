-- A decimal and the byte behind it, put at a place.
use mathlib.Core.Path.{◌≡◌, ap, ◌∙◌}
use mathlib.Core.List.{List, [], ◌∷◌}
use Prim.Native.Nat.{ℕ, ◌+◌, ◌-◌, ◌≤◌, ◌<◌}
use native.Mathlib.Omega.{arith}
use native.Mathlib.Numerals.{add-one}
use lib.ListN.{length, take, set, length-append}
use lib.Seq.{set_split, drop-drop}
use borrow.Rule.Slice.PartMut.{put_mid}
use Rattle.io.specs.Counts.{IsPrefixLen}
use Rattle.io.specs.Digits.{last_digits, IsDigitCount}
use Rattle.ast.specs.Bytes.{put}
use Rattle.area.proofs.Puts.{length_put, put_again}
use Rattle.report.specs.Decimals.{most_digits, decimal}
use Rattle.report.specs.Lines.{field}
use Rattle.report.proofs.Digits.{decimal_is}

-- one number put at a place
pub put_one : (d : List ℕ) (n b : ℕ) → n < length d → set d n b ≡ put d n (b ∷ [])
unfolding put
put_one d n b h = rw add-one (set_split d n b h)

-- k digits at the front of xs, the fewest that hold n
module _ (n k : ℕ) (xs : List ℕ) (counts : IsPrefixLen k xs) (fewest : IsDigitCount 10 1 n k) (are : take k xs ≡ last_digits 10 k n) (few : k ≤ most_digits) where
  -- They are the decimal of n,
  decimal_are : take k xs ≡ decimal n
  decimal_are = are ∙ decimal_is n k fewest few

  -- so a field is one byte longer;
  pub field_end : (at behind : ℕ) → at + k + 1 ≡ at + length (field n behind)
  unfolding field
  field_end at behind = simp length-append (omega (arith, counts.1, ap length decimal_are))

  -- and copied to a place, with the byte set behind them, they are the field.
  pub put_field : (d d' : List ℕ) (at behind : ℕ) → at + (k + 1) ≤ length d → d' ≡ put_mid at (at + k - at) d (take k xs)
      → set d' (at + k) behind ≡ put d at (field n behind)
  unfolding field put
  put_field d d' at behind fits g =
      let long : k ≡ length (decimal n) = counts.1 ∙ ap length decimal_are in
      let part : at + k - at ≡ k = omega arith in
      let i : d' ≡ put d at (decimal n) = g ∙ rw (part, decimal_are, drop-drop k at d, long) in
      let l : length d' ≡ length d = ap length i ∙ length_put d (decimal n) at (omega arith) in
      put_one d' (at + k) behind (omega arith) ∙ put_again d d' (decimal n) (behind ∷ []) at (at + k) (omega arith) (omega arith) i
