-- `all` over numbers in a row, and over the list whose element k is that of number a + k.
use mathlib.Core.Path.{◌≡◌, refl, ap, ap₂, ◌∙◌}
use mathlib.Core.Bool.{Bool, true, false, ◌&&◌}
use mathlib.Core.List.{List, [], ◌∷◌}
use Prim.Native.Nat.{ℕ, zero, suc, ◌+◌, ◌<◌}
use native.Mathlib.Omega.{arith}
use denote.Param.Members.{Mut}
use lib.ListN.{length, get_or}
use Rattle.std.specs.Fn.{Called}
use Rattle.std.specs.Iterator.{ChecksAll}
use Rattle.std.specs.List.{list_all, range_with_len}
use Rattle.std.proofs.iter.Yields.{nat_range_steps}
use Rattle.std.proofs.lemmas.Iterator.{YieldsList-from_range}
use Rattle.std.proofs.lemmas.Iterator.Search.{all_from_yields_List}
use Rattle.std.specs.declared.ops.Range.{Range}
use Rattle.functions.specs.Lists.{all}

-- t says of number a + k what p says of element k
pub all_along : {A : Type 0} (t : ℕ → Bool) (p : A → Bool) (d : A) (a : ℕ) (xs : List A) → ((k : ℕ) → k < length xs → t (a + k) ≡ p (get_or xs k d)) → list_all t (range_with_len a (length xs)) ≡ all p xs
unfolding all
all_along t p d a [] h = refl
all_along t p d a (x ∷ xs) h =
    let z : a + 0 ≡ a = omega arith in
    ap₂ ◌&&◌ (rw z at (h 0 (omega arith))) (all_along t p d (a + 1) xs (λ k l. let e : a + 1 + k ≡ a + suc k = omega arith in ap t e ∙ h (suc k) (omega arith)))

-- the last of the numbers first
pub all_last : (t : ℕ → Bool) (a n : ℕ) → list_all t (range_with_len a (suc n)) ≡ (t (a + n) && list_all t (range_with_len a n))
all_last t a zero = let z : a + 0 ≡ a = omega arith in rw z refl
all_last t a (suc n) =
    let z : a + 1 + n ≡ a + suc n = omega arith in
    ap (λ (b : Bool). t a && b) (all_last t (a + 1) n ∙ ap (λ (k : ℕ). t k && list_all t (range_with_len (a + 1) n)) z) ∙ swapped (t a) (t (a + suc n)) (list_all t (range_with_len (a + 1) n))
  where
    swapped : (x y b : Bool) → x && (y && b) ≡ y && (x && b)
    swapped true y b = refl
    swapped false true b = refl
    swapped false false b = refl

-- what `all` answers
module _ {F : Type 0} (t : ℕ → Bool) {g : Mut F (ℕ × Unit {0}) Bool} {f : F} {s u : Range ℕ} {r : Bool} where
  -- over the numbers from a up to b
  pub all_numbers : (a b n : ℕ) → b ≡ a + n → s ≡ record { start = a; end = b } → ChecksAll nat_range_steps g s f r u → ((x : ℕ) (w : Bool) (k : F) → Called g f (x, tt) w k → (k ≡ f) × (w ≡ t x)) → r ≡ list_all t (range_with_len a n)
  all_numbers a b n l e ran calls = all_from_yields_List t u f r ran (YieldsList-from_range a b n e (omega arith)) calls

  -- over the places of a list
  pub all_places : {A : Type 0} (p : A → Bool) (d : A) (b : ℕ) (xs : List A) → length xs ≡ b → s ≡ record { start = 0; end = b } → ChecksAll nat_range_steps g s f r u
      → ((x : ℕ) (w : Bool) (k : F) → Called g f (x, tt) w k → (k ≡ f) × (w ≡ t x)) → ((k : ℕ) → t k ≡ p (get_or xs k d)) → r ≡ all p xs
  all_places p d b xs l e ran calls h = all_numbers 0 b (length xs) (omega (arith, l)) e ran calls ∙ all_along t p d 0 xs (λ k m. let same : 0 + k ≡ k = omega arith in ap t same ∙ h k)
