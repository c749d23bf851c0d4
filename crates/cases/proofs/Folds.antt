-- One more: a step behind others, and a case behind others that are counted.
use Rattle.std.proofs.Common.{◌≡◌, ℕ, ◌+◌, Bool, true, false, not, cond, List, [], ◌∷◌, ◌++◌, sym, subst, refl, arith}
use Rattle.std.specs.Int.{from_bool}
use Rattle.std.specs.List.{FoldsTo, count_by}
use Rattle.std.proofs.lemmas.List.Sums.{sum_by_push}

pub FoldsTo-snoc : {P A : Type 0} (R : P → A → P → Type 0) (p : P) (xs : List A) (q : P) (x : A) (r : P) → FoldsTo R p xs q → R q x r → FoldsTo R p (xs ++ x ∷ []) r
FoldsTo-snoc R p [] q x r e s = (r, subst (λ v. R v x r) (sym e) s, refl)
FoldsTo-snoc R p (y ∷ ys) q x r e s = (e.0, e.1, FoldsTo-snoc R e.0 ys q x r e.2 s)

pub count_snoc : (xs : List Bool) (x : Bool) (n one : ℕ) → n ≡ count_by not xs → one ≡ from_bool (not x) → n + one ≡ count_by not (xs ++ x ∷ [])
count_snoc xs true n one e b = omega (arith, sum_by_push (λ x. cond (not x) 1 0) xs true)
count_snoc xs false n one e b = omega (arith, sum_by_push (λ x. cond (not x) 1 0) xs false)
