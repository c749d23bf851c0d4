-- What is printed of an answer area and the text it came from: one line for each listed error: line, column, kind, as decimals parted by one space.
use Rattle.std.specs.Prelude.{ℕ, ◌+◌, ◌*◌, Option, cond, List, [], ◌∷◌, ◌++◌, take}
use Rattle.std.specs.Option.{unwrap_or}
use Rattle.functions.specs.Lists.{each}
use Rattle.ast.specs.Words.{words, word_of}
use Rattle.definitions.specs.Layout.{Layout, plain, most_kind, kind_of_error, records_at, keeps_layout}
use Rattle.positions.specs.declared.Place.{Place}
use Rattle.positions.specs.Positions.{newline, place_of, shown_for}
use Rattle.report.specs.Decimals.{most_digits, decimal}

abbrev pub space : ℕ
space = 32

-- A number, and the byte behind it.
unfoldable pub field : ℕ → ℕ → List ℕ
field n behind = decimal n ++ behind ∷ []

-- at most 20 digits and the byte behind them, three times
abbrev pub most_line : ℕ
most_line = 3 * (most_digits + 1)

-- Line, column, kind.
unfoldable pub line_for : Place → ℕ → List ℕ
line_for p kind = field p.line space ++ (field p.column space ++ field kind newline)

-- what is printed where there is no place
unfoldable pub nowhere : Place
nowhere = record { line = 0; column = 0 }

-- A place as it is printed: 0 and 0 where there is none.
unfoldable pub place_as : Option Place → Place
place_as p = unwrap_or p nowhere

-- ---- error: kind, span, name plus 1 or 0

abbrev pub start_of_error : List ℕ → ℕ
start_of_error r = word_of r 1

abbrev pub end_of_error : List ℕ → ℕ
end_of_error r = word_of r 2

-- The place of its span's start; none where the span is missing or starts above the text's length.
unfoldable pub place_of_error : List ℕ → List ℕ → Option Place
place_of_error text r = shown_for (start_of_error r) (end_of_error r) (place_of text (start_of_error r))

unfoldable pub error_line : List ℕ → List ℕ → List ℕ
error_line text r = line_for (place_as (place_of_error text r)) (kind_of_error r)

-- ---- the area

unfoldable pub listed_errors : Layout → List ℕ → List (List ℕ)
listed_errors l area = (records_at l (take l.header_length (words area)) area).errors

-- Nothing where the area breaks the layout l, in which errors of the kinds 1 to `kinds` exist.
unfoldable pub lines_of : Layout → ℕ → List ℕ → List ℕ → List ℕ
lines_of l kinds area text = cond (keeps_layout l kinds area) (each (error_line text) (listed_errors l area)) []

-- The bytes that are printed of an area and a text.
unfoldable pub lines : List ℕ → List ℕ → List ℕ
lines area text = lines_of plain most_kind area text
