-- Line and column of a place in a text, by counts of newline bytes.
use Rattle.std.specs.Prelude.{ℕ, zero, suc, ◌+◌, Bool, Option, None, Some, cond, ◌&&◌, List, [], ◌∷◌, ◌++◌, leb, eqb, length, take}
use Rattle.functions.specs.Lists.{times}
use Rattle.ast.specs.FileNumbers.{missing_word}
use Rattle.positions.specs.declared.Place.{Place}

abbrev pub newline : ℕ
newline = 10

abbrev pub is_newline : ℕ → Bool
is_newline b = eqb b newline

-- 1 plus the newline bytes before the place: those among the first `start` bytes.
unfoldable pub line_of : List ℕ → ℕ → ℕ
line_of text start = 1 + times is_newline (take start text)

-- the places below n
unfoldable pub below : ℕ → List ℕ
below zero = []
below (suc n) = below n ++ n ∷ []

-- 1 plus the bytes before the place that stand on its line: those since the last newline, or since the beginning.
unfoldable pub column_of : List ℕ → ℕ → ℕ
column_of text start = 1 + times (λ j. eqb (line_of text j) (line_of text start)) (below start)

-- The place of a start: none for one above the text's length. One that equals it has a line and a column.
unfoldable pub place_of : List ℕ → ℕ → Option Place
place_of text start = cond (leb start (length text)) (Some (record { line = line_of text start; column = column_of text start })) None

-- A span is missing only if both its words are 4,294,967,295.
unfoldable pub is_missing : ℕ → ℕ → Bool
is_missing from to = eqb from missing_word && eqb to missing_word

-- The place that is shown for a span whose start has the place p: none for one that is missing.
unfoldable pub shown_for : ℕ → ℕ → Option Place → Option Place
shown_for from to p = cond (is_missing from to) None p
