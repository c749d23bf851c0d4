-- Lines from a table: beside each error stands an entry, with the place of its start.
use Rattle.std.specs.Prelude.{ℕ, ◌≤◌, ◌≡◌, Option, List, [], ◌∷◌, ◌++◌, length, map}
use Rattle.ast.specs.Bytes.{front}
use Rattle.ast.specs.declared.sections.Records.{Records}
use Rattle.definitions.specs.Layout.{kind_of_error}
use Rattle.keeping.specs.Placed.{ErrorsLie}
use Rattle.positions.specs.declared.Entry.{Entry}
use Rattle.positions.specs.declared.Place.{Place}
use Rattle.positions.specs.Pieces.{starts, places}
use Rattle.positions.specs.Positions.{shown_for}
use Rattle.report.specs.Lines.{start_of_error, end_of_error, line_for, nowhere, place_as, lines}

-- What is shown for the error r, where its start has the place p.
unfoldable pub tabled_place : Option Place → List ℕ → Option Place
tabled_place p r = shown_for (start_of_error r) (end_of_error r) p

-- The lines of errors, with the entries of a table beside them: an error beyond the table has no place.
unfoldable pub tabled_lines : List Entry → List (List ℕ) → List ℕ
tabled_lines es [] = []
tabled_lines [] (r ∷ rs) = line_for nowhere (kind_of_error r) ++ tabled_lines [] rs
tabled_lines (x ∷ es) (r ∷ rs) = line_for (place_as (tabled_place x.place r)) (kind_of_error r) ++ tabled_lines es rs

-- Errors within the bytes, and a table with an entry for each.
pub record Tabled (rs : Records) (area : List ℕ) (es : List Entry) : Type 0 where
  pub lie : ErrorsLie rs area
  pub long : rs.count ≤ length es

-- The table has become one of the starts of the errors rs, and is as it was behind them; the places of all its entries stay.
pub record Noted (rs : List (List ℕ)) (es es' : List Entry) : Type 0 where
  pub starts : starts es' ≡ front (starts es) (map start_of_error rs)
  pub places : places es' ≡ places es

-- The bytes b are the lines of the area and a text.
pub record Printed (area b : List ℕ) : Type 0 where
  pub text : List ℕ
  pub are : b ≡ lines area text
