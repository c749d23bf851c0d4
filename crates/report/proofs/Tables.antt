-- Lines from the tables of a text are the lines of that text.
use mathlib.Core.Path.{◌≡◌, refl, sym, ap, ◌∙◌}
use mathlib.Core.Bool.{true, false}
use mathlib.Core.List.{List, [], ◌∷◌, ◌++◌, map}
use Prim.Native.Nat.{ℕ, ◌≤◌}
use native.Mathlib.Omega.{arith}
use lib.ListN.{length, take, length-append}
use lib.Seq.{length-take-le}
use Rattle.io.specs.Counts.{IsPrefixLen}
use Rattle.ast.specs.Bytes.{front}
use Rattle.ast.proofs.Fronts.{take_front}
use Rattle.functions.specs.Lists.{each}
use Rattle.ast.specs.RecordsIn.{records_in}
use Rattle.definitions.specs.Area.{header_in}
use Rattle.definitions.specs.Layout.{plain, most_kind, records_at, keeps_layout}
use Rattle.keeping.specs.declared.sections.Sections.{Sections}
use Rattle.keeping.specs.Placed.{sections_of}
use Rattle.positions.specs.declared.Entry.{Entry}
use Rattle.positions.specs.Pieces.{starts, placed, OfText}
use Rattle.report.specs.Lines.{start_of_error, place_of_error, error_line, listed_errors, lines_of, lines}
use Rattle.report.specs.Tabled.{tabled_place, tabled_lines, Printed}

-- ---- the lines of a text

-- Lines from the table of a text, of which each entry is of an error's start, are the lines of the text.
pub tabled_are : (t rest : List ℕ) (rs : List (List ℕ)) → tabled_lines (placed t (map start_of_error rs ++ rest)) rs ≡ each (error_line t) rs
unfolding tabled_lines tabled_place placed each error_line place_of_error
tabled_are t rest [] = refl
tabled_are t rest (r ∷ rs) = ap (λ (b : List ℕ). error_line t r ++ b) (tabled_are t rest rs)

-- ---- of an area

-- The errors' section, by place, has the listed errors.
pub errors_are : (area : List ℕ) → records_in (sections_of plain (header_in area)).errors area ≡ listed_errors plain area
unfolding sections_of listed_errors records_at header_in
errors_are area = refl

-- What is printed of an area that keeps the layout: a line for each listed error.
pub lines_are : (area text : List ℕ) → keeps_layout plain most_kind area ≡ true → lines area text ≡ each (error_line text) (listed_errors plain area)
unfolding lines lines_of
lines_are area text h = rw h refl

-- Nothing is printed of one that breaks it.
pub no_line : (area text : List ℕ) → keeps_layout plain most_kind area ≡ false → lines area text ≡ []
unfolding lines lines_of
no_line area text h = rw h refl

-- ---- what is put at the front of a buffer

-- The bytes that are put there are in it,
pub front_counts : (d d' e : List ℕ) (r : ℕ) → r ≡ length e → d' ≡ front d e → IsPrefixLen r d'
unfolding front
front_counts d d' e r l g = let w : r ≤ length d' = rw g (rw length-append (omega arith)) in (w, sym (length-take-le r d' w))

-- and where they are the lines from the table of any text, they are the lines of the area and that text.
pub printed : (area : List ℕ) (es es' es'' : List Entry) (s : Sections) → keeps_layout plain most_kind area ≡ true → s ≡ sections_of plain (header_in area)
    → starts es' ≡ front (starts es) (map start_of_error (records_in s.errors area)) → OfText (starts es') es''
    → (d d' : List ℕ) (r : ℕ) → r ≡ length (tabled_lines es'' (records_in s.errors area)) → d' ≡ front d (tabled_lines es'' (records_in s.errors area))
    → IsPrefixLen r d' × Printed area (take r d')
printed area es es' es'' s keeps is noted x d d' r l g =
    let rs = records_in s.errors area in
    let are : rs ≡ listed_errors plain area = ap (λ (z : Sections). records_in z.errors area) is ∙ errors_are area in
    let e : tabled_lines es'' rs ≡ each (error_line x.text) rs = unfold front in rw (x.placed, noted) (tabled_are x.text _ rs) in
    (front_counts d d' (tabled_lines es'' rs) r l g, record { text = x.text; are = rw (l, g) (take_front d (tabled_lines es'' rs)) ∙ e ∙ ap (each (error_line x.text)) are ∙ sym (lines_are area x.text keeps) })
