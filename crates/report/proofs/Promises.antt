-- Read this first: what is promised of the lines that are printed of an answer area and a text.
use mathlib.Core.Path.{◌≡◌, refl, ap, ap₂, ◌∙◌}
use mathlib.Core.Bool.{Bool, true, false}
use mathlib.Core.List.{List, [], ◌∷◌, ◌++◌, map}
use Prim.Native.Nat.{ℕ, ◌+◌, ◌-◌}
use native.Mathlib.Omega.{arith}
use lib.Dec.{T, leb}
use lib.ListN.{length, take, replicate}
use Rattle.std.specs.Prelude.{Option, None, cond}
use Rattle.functions.specs.Lists.{all, each, flag, times}
use Rattle.ast.specs.Words.{section}
use Rattle.ast.proofs.Fields.{length_section}
use Rattle.definitions.specs.Numbers.{error_length, most_listed}
use Rattle.definitions.specs.Answer.{Answer, error_words, answer_bytes}
use Rattle.definitions.specs.Area.{listed_in, nodes_from, stmts_from, vars_from, deps_from, errors_from, header_in, InArea, are_bytes}
use Rattle.definitions.specs.Layout.{plain, most_kind, nodes_at, stmts_at, vars_at, deps_at, errors_at, records_at, keeps_layout}
use Rattle.definitions.specs.Build.{accepted, answer, build, result_area}
use Rattle.definitions.proofs.Area.{in_area, fate_each, whole_area}
use Rattle.definitions.proofs.AnswersKeep.{answers_keep}
use Rattle.positions.specs.Positions.{newline, is_newline, line_of, column_of, place_of, is_missing, shown_for}
use Rattle.positions.specs.declared.Place.{Place}
use Rattle.positions.proofs.Counting.{times_append}
use Rattle.report.specs.Decimals.{decimal}
use Rattle.report.specs.Lines.{space, field, line_for, nowhere, place_as, start_of_error, end_of_error, place_of_error, error_line, listed_errors, lines}
use Rattle.report.specs.Examples.{lines_table, lines_examples}
use Rattle.report.proofs.Digits.{decimal_digits}
use Rattle.report.proofs.Tables.{lines_are}

-- What is printed of areas and texts of a table: each byte of a text, its end and what is above it, missing spans, areas that break their layout.
pub the_lines_examples : T (all (λ b. b) lines_table)
the_lines_examples = lines_examples

-- ---- the place of an error

place_as_cond : (b : Bool) (p q : Option Place) → place_as (cond b p q) ≡ cond b (place_as p) (place_as q)
place_as_cond true p q = refl
place_as_cond false p q = refl

-- What is printed for an error: 0 and 0 where its span is missing, the line and the column of the span's start where that is not above the text's length, else 0 and 0.
pub place_printed : (text r : List ℕ) → let start = start_of_error r in
    place_as (place_of_error text r)
    ≡ cond (is_missing start (end_of_error r)) nowhere (cond (leb start (length text)) (record { line = line_of text start; column = column_of text start }) nowhere)
unfolding place_of_error shown_for place_of place_as nowhere
place_printed text r = let start = start_of_error r in
    place_as_cond (is_missing start (end_of_error r)) None (place_of text start)
    ∙ ap (cond (is_missing start (end_of_error r)) nowhere) (place_as_cond (leb start (length text)) _ None)

-- ---- the listed errors of an answer

each_map : {A B C : Type 0} (f : B → List C) (g : A → B) (xs : List A) → each f (map g xs) ≡ each (λ x. f (g x)) xs
unfolding each
each_map f g [] = refl
each_map f g (x ∷ xs) = ap (λ b. f (g x) ++ b) (each_map f g xs)

-- in an area that holds it
listed_are : (b : List ℕ) (a : Answer) → InArea b a → listed_errors plain b ≡ map error_words (take most_listed a.errors)
unfolding listed_errors records_at errors_at deps_at vars_at stmts_at nodes_at errors_from deps_from vars_from stmts_from nodes_from header_in
listed_are b a x = ap (λ (h : List ℕ). section error_length (listed_in h) (errors_from h) b) x.header_is ∙ x.errors_are

-- Of every answer that is accepted, whatever the text and however many zeros stand behind it: one line for each of its first 256 errors, in their order.
pub a_line_for_each_error : (file root : List ℕ) (a : Answer) (k : ℕ) (text : List ℕ) → are_bytes file ≡ true → answer file root ≡ accepted a
    → lines (answer_bytes a ++ replicate k 0) text ≡ each (λ e. error_line text (error_words e)) (take most_listed a.errors)
a_line_for_each_error file root a k text hf h =
    let b = answer_bytes a ++ replicate k 0 in
    lines_are b text (answers_keep file root a k hf h)
    ∙ ap (each (error_line text)) (listed_are b a (in_area a (replicate k 0) (fate_each file root a h)))
    ∙ each_map (error_line text) error_words (take most_listed a.errors)

-- So it is of the whole area after a build that is accepted.
pub a_line_after_a_build : (file root : List ℕ) (room : ℕ) (b text : List ℕ) → are_bytes file ≡ true → build file root room ≡ accepted b
    → (a : Answer) × (answer file root ≡ accepted a)
    × (lines (result_area room (build file root room)) text ≡ each (λ e. error_line text (error_words e)) (take most_listed a.errors))
a_line_after_a_build file root room b text hf h =
    let (a, ha, e, _) = whole_area file root room b h in
    (a, ha, ap (λ (x : List ℕ). lines x text) e ∙ a_line_for_each_error file root a (room - length (answer_bytes a)) text hf ha)

-- ---- how many lines

-- a field in front of a space has no newline, one in front of a newline has one
field_newlines : (n behind : ℕ) → times is_newline (field n behind) ≡ times is_newline (behind ∷ [])
unfolding field
field_newlines n behind = times_append is_newline (decimal n) (behind ∷ []) ∙ rw (decimal_digits n) (omega arith)

-- so a line has one
line_newlines : (p : Place) (kind : ℕ) → times is_newline (line_for p kind) ≡ 1
unfolding line_for
line_newlines p kind =
    let behind = times_append is_newline (field p.column space) (field kind newline) in
    times_append is_newline (field p.line space) (field p.column space ++ field kind newline)
    ∙ ap₂ ◌+◌ (field_newlines p.line space) (behind ∙ ap₂ ◌+◌ (field_newlines p.column space) (field_newlines kind newline))
    ∙ (unfold times flag in refl)

-- lists that each have one that passes
times_each : {A B : Type 0} (p : B → Bool) (f : A → List B) → ((x : A) → times p (f x) ≡ 1) → (xs : List A) → times p (each f xs) ≡ length xs
unfolding each times
times_each p f h [] = refl
times_each p f h (x ∷ xs) = times_append p (f x) (each f xs) ∙ ap₂ ◌+◌ (h x) (times_each p f h xs) ∙ omega arith

-- there are as many as the header says
listed_count : (area : List ℕ) → length (listed_errors plain area) ≡ listed_in (header_in area)
unfolding listed_errors records_at header_in
listed_count area = length_section error_length _ _ area

-- As many lines are printed of an area that keeps the layout as errors are listed in it: one for each newline.
pub line_count : (area text : List ℕ) → keeps_layout plain most_kind area ≡ true → times is_newline (lines area text) ≡ listed_in (header_in area)
unfolding error_line
line_count area text h =
    ap (times is_newline) (lines_are area text h) ∙ times_each is_newline (error_line text) (λ r. line_newlines _ _) (listed_errors plain area) ∙ listed_count area
