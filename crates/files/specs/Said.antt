-- What is said of what failed.
use Rattle.std.specs.Prelude.{◌≡◌, ℕ, List, ◌++◌, take, codes}
use Rattle.std.specs.declared.option.Option.{Option}
use Rattle.std.specs.Option.{option_map_or}
use Rattle.std.specs.Str.Pattern.{FindsText}

-- front is what stands before the first place where the mark occurs in a text, or the whole text where it does not
abbrev pub IsCut : List ℕ → List ℕ → List ℕ → Type 0
IsCut mark text front = (found : Option (ℕ × ℕ)) × FindsText mark text found × (front ≡ option_map_or (λ p. take p.0 text) found text)

-- what is written of what failed and of words
abbrev pub line_of : List ℕ → List ℕ → List ℕ
line_of what words = what ++ (codes ": " ++ words)

-- a line: what failed, and an error's text up to the number that stands behind its words
abbrev pub IsLine : List ℕ → List ℕ → Type 0
IsLine what line = (text words : List ℕ) × IsCut (codes " (os error ") text words × (line ≡ line_of what words)
