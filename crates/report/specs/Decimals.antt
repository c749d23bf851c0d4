-- Numbers as decimals.
use Rattle.std.specs.Prelude.{ℕ, zero, suc, ◌+◌, ◌/◌, ◌%◌, cond, List, [], ◌∷◌, ◌++◌, ltb}

-- the ASCII byte of a digit
abbrev pub digit : ℕ → ℕ
digit d = 48 + d

-- The decimal digits of n, the most significant first and no zero in front of others, where k are enough.
unfoldable pub digits_within : ℕ → ℕ → List ℕ
digits_within zero n = []
digits_within (suc k) n = cond (ltb n 10) (digit n ∷ []) (digits_within k (n / 10) ++ digit (n % 10) ∷ [])

-- A number of 64 bits has at most 20.
abbrev pub most_digits : ℕ
most_digits = 20

unfoldable pub decimal : ℕ → List ℕ
decimal n = digits_within most_digits n
