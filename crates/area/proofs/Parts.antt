-- Parts of an area: what is put at a place stands there, everything elsewhere stays, and parts one behind the other are the whole.
use mathlib.Core.Path.{◌≡◌, refl, sym, ap, ap₂, ◌∙◌}
use mathlib.Core.List.{List, ◌++◌, append_assoc}
use Prim.Native.Nat.{ℕ, ◌+◌, ◌-◌, ◌≤◌}
use native.Mathlib.Omega.{arith}
use lib.ListN.{length, take, drop, length-append}
use lib.Seq.{length-take-le, take_at, drop_at, drop-append-add, drop-drop, take-add}
use Rattle.ast.specs.Bytes.{put}
use Rattle.area.specs.Sections.{part}
use Rattle.area.proofs.SectionsKept.{part_take}

-- ---- what is put

pub part_put : (at n : ℕ) (b e : List ℕ) → at ≤ length b → length e ≡ n → part at n (put b at e) ≡ e
unfolding part put
part_put at n b e h l =
    ap (take n) (drop_at (take at b) (e ++ drop (at + length e) b) at (length-take-le at b h)) ∙ take_at e (drop (at + length e) b) n l

-- ---- what stays

-- in front of what is put
pub part_before : (at n p : ℕ) (b e : List ℕ) → at + n ≤ p → p ≤ length b → part at n (put b p e) ≡ part at n b
unfolding part put
part_before at n p b e h l =
    let t : take p (take p b ++ (e ++ drop (p + length e) b)) ≡ take p b = take_at (take p b) (e ++ drop (p + length e) b) p (length-take-le p b l) in
    part_take at n p (take p b ++ (e ++ drop (p + length e) b)) h
    ∙ ap (λ (x : List ℕ). take n (drop at x)) t
    ∙ sym (part_take at n p b h)

-- behind it
pub part_behind : (at n p : ℕ) (b e : List ℕ) → p + length e ≤ at → p ≤ length b → part at n (put b p e) ≡ part at n b
unfolding part put
part_behind at n p b e h l =
    let k : length (take p b) ≡ p = length-take-le p b l in
    let j : length (take p b ++ e) ≡ p + length e = length-append (take p b) e ∙ ap (λ (x : ℕ). x + length e) k in
    let i : at ≡ length (take p b ++ e) + (at - (p + length e)) = omega arith in
    let g : drop at (take p b ++ (e ++ drop (p + length e) b)) ≡ drop at b =
    ap (drop at) (sym (append_assoc (take p b) e (drop (p + length e) b)))
    ∙ ap (λ (x : ℕ). drop x ((take p b ++ e) ++ drop (p + length e) b)) i
    ∙ drop-append-add (take p b ++ e) (drop (p + length e) b) (at - (p + length e))
    ∙ drop-drop (at - (p + length e)) (p + length e) b
    ∙ ap (λ (x : ℕ). drop x b) (rest h) in
    ap (take n) g
  where
    rest : p + length e ≤ at → p + length e + (at - (p + length e)) ≡ at
    rest h = omega arith

-- ---- one behind the other

pub parts_join : (at n m : ℕ) (b : List ℕ) → part at (n + m) b ≡ part at n b ++ part (at + n) m b
unfolding part
parts_join at n m b = take-add n m (drop at b) ∙ ap (λ (x : List ℕ). take n (drop at b) ++ take m x) (drop-drop n at b)

first_join : (n m : ℕ) (b : List ℕ) → part 0 (n + m) b ≡ part 0 n b ++ part n m b
first_join n m b =
    let e : 0 + n ≡ n = omega arith in
    parts_join 0 n m b ∙ ap (λ (k : ℕ). part 0 n b ++ part k m b) e

whole : (k : ℕ) (b : List ℕ) → take k b ≡ part 0 k b
unfolding part
whole k b = refl

module _ (b hs ns ss vs ds es : List ℕ) (h n s v d e : ℕ) where
  -- six parts
  pub six_parts : part 0 h b ≡ hs → part h n b ≡ ns → part (h + n) s b ≡ ss → part (h + n + s) v b ≡ vs → part (h + n + s + v) d b ≡ ds → part (h + n + s + v + d) e b ≡ es
      → take (h + n + s + v + d + e) b ≡ hs ++ (ns ++ (ss ++ (vs ++ (ds ++ es))))
  six_parts p₁ p₂ p₃ p₄ p₅ p₆ =
      let e₁ : h + n + s + v + d + e ≡ h + (n + (s + (v + (d + e)))) = omega arith in
      ap (λ (k : ℕ). take k b) e₁
      ∙ whole (h + (n + (s + (v + (d + e))))) b
      ∙ first_join h (n + (s + (v + (d + e)))) b
      ∙ ap₂ ◌++◌ p₁ (parts_join h n (s + (v + (d + e))) b
      ∙ ap₂ ◌++◌ p₂ (parts_join (h + n) s (v + (d + e)) b
      ∙ ap₂ ◌++◌ p₃ (parts_join (h + n + s) v (d + e) b
      ∙ ap₂ ◌++◌ p₄ (parts_join (h + n + s + v) d e b
      ∙ ap₂ ◌++◌ p₅ p₆))))
