-- A section of an area is read from its own bytes: areas with the same first bytes have the same sections there.
use mathlib.Core.Path.{◌≡◌, refl, sym, ap, ◌∙◌}
use mathlib.Core.List.{List, [], ◌∷◌}
use Prim.Native.Nat.{ℕ, zero, suc, ◌+◌, ◌-◌, ◌*◌, ◌≤◌}
use native.Mathlib.Omega.{arith}
use native.Mathlib.Nat.{suc-mul}
use lib.ListN.{length, take, drop, length-drop}
use lib.Seq.{take-take}
use Rattle.std.proofs.lemmas.List.{drop-take}
use Rattle.ast.specs.Words.{words, records, section}

pub drop_take : {A : Type 0} (a k : ℕ) (l : List A) → a ≤ k → drop a (take k l) ≡ take (k - a) (drop a l)
drop_take a k l h =
    let e : k ≡ a + (k - a) = omega arith in
    ap (λ (n : ℕ). drop a (take n l)) e ∙ drop-take a (k - a) l

-- m bytes from a place on, of a list cut behind them
pub part_take : {A : Type 0} (at m k : ℕ) (d : List A) → at + m ≤ k → take m (drop at d) ≡ take m (drop at (take k d))
part_take at m k d h = sym (ap (take m) (drop_take at k d (omega arith)) ∙ take-take m (k - at) (drop at d) (omega arith))

words_front : (m : ℕ) (xs : List ℕ) → 4 * m ≤ length xs → words (take (4 * m) xs) ≡ take m (words xs)
unfolding words
words_front zero xs h = refl
words_front (suc m) [] h = absurd (omega arith)
words_front (suc m) (a ∷ []) h = absurd (omega arith)
words_front (suc m) (a ∷ b ∷ []) h = absurd (omega arith)
words_front (suc m) (a ∷ b ∷ c ∷ []) h = absurd (omega arith)
words_front (suc m) (a ∷ b ∷ c ∷ d ∷ r) h =
    let e : 4 * suc m ≡ suc (suc (suc (suc (4 * m)))) = omega arith in
    rw e (ap (λ (l : List ℕ). (a + 256 * b + 65536 * c + 16777216 * d) ∷ l) (words_front m r (omega arith)))

records_front : (w n : ℕ) (xs : List ℕ) → records w n xs ≡ records w n (take (n * w) xs)
unfolding records
records_front w zero xs = refl
records_front w (suc n) xs =
    let s = suc-mul n w in
    let e : suc n * w - w ≡ n * w = omega arith in
    let t : take w (take (suc n * w) xs) ≡ take w xs = take-take w (suc n * w) xs (omega arith) in
    let u : drop w (take (suc n * w) xs) ≡ take (n * w) (drop w xs) = drop_take w (suc n * w) xs (omega arith) ∙ ap (λ (k : ℕ). take k (drop w xs)) e in
    rw (t, u) (ap (λ (l : List (List ℕ)). take w xs ∷ l) (records_front w n (drop w xs)))

section_bytes : (w n at : ℕ) (d : List ℕ) → at + 4 * (n * w) ≤ length d → section w n at d ≡ records w n (words (take (4 * (n * w)) (drop at d)))
unfolding section
section_bytes w n at d h = records_front w n (words (drop at d)) ∙ ap (records w n) (sym (words_front (n * w) (drop at d) (simp length-drop (omega arith))))

-- two lists with the same first k bytes have the same sections there
pub section_kept : (w n at k : ℕ) (d d' : List ℕ) → at + 4 * (n * w) ≤ k → k ≤ length d → k ≤ length d' → take k d ≡ take k d' → section w n at d ≡ section w n at d'
section_kept w n at k d d' h l l' e =
    let m = 4 * (n * w) in
    let p : take m (drop at d) ≡ take m (drop at d') = part_take at m k d h ∙ ap (λ (x : List ℕ). take m (drop at x)) e ∙ sym (part_take at m k d' h) in
    section_bytes w n at d (omega arith) ∙ ap (λ (x : List ℕ). records w n (words x)) p ∙ sym (section_bytes w n at d' (omega arith))
