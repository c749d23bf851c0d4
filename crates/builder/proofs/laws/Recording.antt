-- The records of flattened statements before their fates are known.
use mathlib.Core.Path.{◌≡◌, refl, ap, ◌∙◌}
use mathlib.Core.List.{List, [], ◌∷◌, ◌++◌}
use Prim.Native.Nat.{ℕ, ◌+◌, ◌*◌}
use native.Mathlib.Omega.{arith}
use lib.ListN.{length}
use Rattle.functions.specs.Lists.{sum_of}
use Rattle.ast.specs.Tree.{Flat, equation, rate, flat_size}
use Rattle.ast.specs.Encode.{encode}
use Rattle.ast.proofs.Encodes.{Eights, length_encode, encode_append}
use Rattle.builder.specs.Unfated.{unfated_words, unfated}

length_words : (n : ℕ) (q : Flat) → length (unfated_words n q) ≡ 8
unfolding unfated_words
length_words n (equation l r s) = refl
length_words n (rate m r s) = refl

eights_unfated : (n : ℕ) (qs : List Flat) → Eights (unfated n qs)
unfolding unfated
eights_unfated n [] = tt
eights_unfated n (q ∷ qs) = (length_words n q, eights_unfated (n + flat_size q) qs)

-- a record for each statement
count_unfated : (n : ℕ) (qs : List Flat) → length (unfated n qs) ≡ length qs
unfolding unfated
count_unfated n [] = refl
count_unfated n (q ∷ qs) = omega (arith, count_unfated (n + flat_size q) qs)

pub length_unfated : (n : ℕ) (qs : List Flat) → length (encode (unfated n qs)) ≡ 32 * length qs
length_unfated n qs = length_encode (unfated n qs) (eights_unfated n qs) ∙ ap (λ (k : ℕ). 32 * k) (count_unfated n qs)

unfated_append : (n : ℕ) (xs ys : List Flat) → unfated n (xs ++ ys) ≡ unfated n xs ++ unfated (n + sum_of flat_size xs) ys
unfolding unfated sum_of
unfated_append n [] ys =
    let e : n ≡ n + 0 = omega arith in
    ap (λ (k : ℕ). unfated k ys) e
unfated_append n (x ∷ xs) ys =
    let e : n + flat_size x + sum_of flat_size xs ≡ n + (flat_size x + sum_of flat_size xs) = omega arith in
    ap (λ (r : List (List ℕ)). unfated_words n x ∷ r) (unfated_append (n + flat_size x) xs ys ∙ ap (λ (k : ℕ). unfated (n + flat_size x) xs ++ unfated k ys) e)

-- the trees of later statements stand behind those of earlier ones
pub records_append : (n : ℕ) (xs ys : List Flat) → encode (unfated n (xs ++ ys)) ≡ encode (unfated n xs) ++ encode (unfated (n + sum_of flat_size xs) ys)
records_append n xs ys = ap encode (unfated_append n xs ys) ∙ encode_append (unfated n xs) (unfated (n + sum_of flat_size xs) ys)
