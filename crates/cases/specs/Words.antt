-- The words of a head, four bytes to each, the low one first.
use Rattle.std.specs.Prelude.{◌≡◌, ℕ, List, [], ◌∷◌, ◌++◌, length}
use Rattle.std.specs.declared.option.Option.{Option}
use Rattle.std.specs.Int.{w32, from_le_bytes}
use Rattle.std.specs.Io.KnownBytes.{Consumes}

-- these bytes are these words
abbrev pub AreWords : List ℕ → List ℕ → Type 0
AreWords bytes [] = bytes ≡ []
AreWords bytes (w ∷ ws) = (word rest : List ℕ) × (bytes ≡ word ++ rest) × (length word ≡ 4) × (w ≡ from_le_bytes w32 word) × AreWords rest ws

-- what an input has left, where that is known, lost the bytes that are these words
abbrev pub TakesWords : Option (List ℕ) → Option (List ℕ) → List ℕ → Type 0
TakesWords old new ws = (bytes : List ℕ) × AreWords bytes ws × Consumes old new bytes
