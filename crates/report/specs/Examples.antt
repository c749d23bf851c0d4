-- Lines of areas and texts, computed: one table with one proof.
use Rattle.std.specs.Prelude.{ℕ, Bool, List, [], ◌∷◌, ◌++◌, map, T, length, replicate}
use Rattle.functions.specs.Computes.{functions·computes}
use Rattle.functions.specs.Lists.{text, same_text, all, each}
use Rattle.ast.specs.Computes.{ast·computes}
use Rattle.ast.specs.FileNumbers.{missing_word}
use Rattle.ast.specs.Tree.{unstated}
use Rattle.ast.specs.Words.{bytes_of}
use Rattle.definitions.specs.Build.{result_area}
use Rattle.definitions.specs.Computes.{definitions·computes}
use Rattle.definitions.specs.Models.{x, y, one, num, dot, unknown, root, built}
use Rattle.positions.specs.Computes.{positions·computes}
use Rattle.positions.specs.Positions.{newline}
use Rattle.report.specs.Computes.{report·computes}
use Rattle.report.specs.Lines.{lines}

-- ---- areas and texts

-- An area with no records but these errors: kind, span, name plus 1 or 0.
abbrev listing : List (List ℕ) → List ℕ
listing es = bytes_of (0 ∷ 0 ∷ 0 ∷ 0 ∷ length es ∷ 0 ∷ 0 ∷ 0 ∷ 0 ∷ 0 ∷ []) ++ each (λ e. bytes_of e) es

-- An error of a kind that starts at a byte.
abbrev at : ℕ → ℕ → List ℕ
at kind start = kind ∷ start ∷ start ∷ 0 ∷ []

-- Texts, each ended by a newline.
abbrev ended : List (List ℕ) → List ℕ
ended ls = each (λ l. l ++ newline ∷ []) ls

-- 7 bytes: two of the first line, one of the second, none of the third, one of the fourth, which has no end
abbrev four : List ℕ
four = ended (text "ab" ∷ text "c" ∷ [] ∷ []) ++ text "d"

-- the whole area of P6, which lists two errors with missing spans, and zeros behind it
abbrev p6 : List ℕ
p6 = result_area 400 (built (root (unknown x (y ∷ []) unstated ∷ unknown y (x ∷ []) unstated ∷ []) (dot x (num one) ∷ []) ∷ []) 400)

-- ---- the table

abbrev prints : List ℕ → List ℕ → List (List ℕ) → Bool
prints area t ls = same_text (lines area t) (ended ls)

-- Each byte of a text; its length has a line and a column, what is above it has none.
abbrev places : List Bool
places =
    prints (listing (map (at 1) (0 ∷ 1 ∷ 2 ∷ 3 ∷ 4 ∷ []))) four (text "1 1 1" ∷ text "1 2 1" ∷ text "1 3 1" ∷ text "2 1 1" ∷ text "2 2 1" ∷ [])
    ∷ prints (listing (map (at 1) (5 ∷ 6 ∷ 7 ∷ 8 ∷ []))) four (text "3 1 1" ∷ text "4 1 1" ∷ text "4 2 1" ∷ text "0 0 1" ∷ [])
    ∷ prints (listing (at 17 0 ∷ at 16 1 ∷ [])) [] (text "1 1 17" ∷ text "0 0 16" ∷ [])
    ∷ prints (listing (at 9 11 ∷ [])) (13 ∷ replicate 20 32) (text "1 12 9" ∷ [])
    ∷ prints (listing (at 2 12 ∷ [])) (replicate 12 newline) (text "13 1 2" ∷ []) ∷ []

-- A span is missing only if both its words are 4,294,967,295.
abbrev missing : List Bool
missing =
    prints (listing ((3 ∷ missing_word ∷ missing_word ∷ 0 ∷ []) ∷ (3 ∷ 5 ∷ missing_word ∷ 0 ∷ []) ∷ [])) four (text "0 0 3" ∷ text "3 1 3" ∷ []) ∷ []

-- An area that breaks its layout prints nothing, also where its last error alone does; zeros behind it change nothing; no errors, no lines.
abbrev areas : List Bool
areas =
    prints (listing (at 1 0 ∷ at 18 0 ∷ [])) four []
    ∷ prints (listing (at 1 0 ∷ []) ++ 1 ∷ []) four []
    ∷ prints (listing (at 1 0 ∷ []) ++ replicate 99 0) four (text "1 1 1" ∷ [])
    ∷ prints [] four [] ∷ prints (replicate 39 0) four [] ∷ prints (replicate 40 0) four []
    ∷ prints p6 four (text "0 0 13" ∷ text "0 0 14" ∷ []) ∷ []

pub lines_table : List Bool
lines_table = places ++ missing ++ areas

pub lines_examples : T (all (λ b. b) lines_table)
unfolding lines_table functions·computes ast·computes definitions·computes positions·computes report·computes
lines_examples = tt
