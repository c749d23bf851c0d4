-- What is read stands behind what was read before.
use Rattle.std.proofs.Common.{◌≡◌, ℕ, ◌+◌, ◌≤◌, List, ◌++◌, length, take, ap, sym, ◌∙◌, length-take-le}
use Rattle.std.proofs.Math.Seq.{take-append-add}
use Rattle.std.proofs.lemmas.List.{take-append-le}

pub taken : (a n : ℕ) (xs ys zs : List ℕ) → a ≤ length xs → n ≤ length ys → take (a + n) (take a xs ++ (ys ++ zs)) ≡ take a xs ++ take n ys
taken a n xs ys zs l m =
    ap (λ k. take (k + n) (take a xs ++ (ys ++ zs))) (sym (length-take-le a xs l))
    ∙ take-append-add (take a xs) (ys ++ zs) n
    ∙ ap (λ t. take a xs ++ t) (take-append-le n ys zs m)
