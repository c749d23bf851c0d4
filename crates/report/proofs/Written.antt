-- Lines that are put one behind the other, and a table that is filled.
use mathlib.Core.Path.{◌≡◌, sym, ap, ◌∙◌}
use mathlib.Core.List.{List, [], ◌∷◌, ◌++◌, map, append_assoc, append-nil}
use Prim.Native.Nat.{ℕ, zero, suc, ◌+◌, ◌≤◌, ◌<◌}
use native.Mathlib.Omega.{arith}
use native.Mathlib.Numerals.{add-one}
use lib.ListN.{length, take, get_or, set, length-append}
use lib.Seq.{length-take-le, take_all, map-set}
use Rattle.std.specs.Prelude.{Option}
use Rattle.std.proofs.lemmas.List.{length-map, map_more}
use Rattle.ast.specs.Bytes.{front, put}
use Rattle.ast.specs.RecordsIn.{records_in}
use Rattle.ast.specs.declared.sections.Records.{Records}
use Rattle.ast.proofs.Fields.{length_section}
use Rattle.ast.proofs.Fronts.{put_behind}
use Rattle.area.proofs.Puts.{put_again}
use Rattle.definitions.specs.Layout.{kind_of_error}
use Rattle.positions.specs.declared.Entry.{Entry}
use Rattle.positions.specs.declared.Place.{Place}
use Rattle.positions.specs.Pieces.{starts}
use Rattle.positions.specs.Positions.{newline}
use Rattle.report.specs.Lines.{space, field, line_for, place_as, start_of_error}
use Rattle.report.proofs.Fields.{put_one}
use Rattle.report.specs.Tabled.{tabled_place, tabled_lines}

-- ---- a line

-- three fields, of which each begins where the one before it ends
module _ (p : Place) (kind at second third : ℕ) (is-second : second ≡ at + length (field p.line space))
    (is-third : third ≡ second + length (field p.column space)) where
  -- They end where the line does,
  pub line_end : (r : ℕ) → r ≡ third + length (field kind newline) → r ≡ at + length (line_for p kind)
  unfolding line_for
  line_end r e = simp length-append (omega arith)

  -- and put one behind the other they are the line.
  pub put_line : (d d₁ d₂ d₃ : List ℕ) → at ≤ length d → d₁ ≡ put d at (field p.line space) → d₂ ≡ put d₁ second (field p.column space)
      → d₃ ≡ put d₂ third (field kind newline) → d₃ ≡ put d at (line_for p kind)
  unfolding line_for
  put_line d d₁ d₂ d₃ h e₁ e₂ e₃ =
      let x = field p.line space in
      let y = field p.column space in
      let g = e₂ ∙ put_again d d₁ x y at second is-second h e₁ in
      let l : third ≡ at + length (x ++ y) = simp length-append (omega arith) in
      e₃ ∙ put_again d d₂ (x ++ y) (field kind newline) at third l h g ∙ ap (put d at) (append_assoc x y (field kind newline))

-- ---- records by place, one by one

module _ (rs : Records) (area : List ℕ) (i : ℕ) where
  pub one_of_them : i < rs.count → i < length (records_in rs area)
  one_of_them h = omega (arith, length_section rs.width rs.count rs.at area)

  pub all_of_them : rs.count ≤ i → take i (records_in rs area) ≡ records_in rs area
  all_of_them h = take_all i (records_in rs area) (omega (arith, length_section rs.width rs.count rs.at area))

-- ---- lines from a table

-- one error more
tabled_suc : (es : List Entry) (rs : List (List ℕ)) (i : ℕ) (d : Entry) → i < length es → i < length rs
    → tabled_lines es (take (suc i) rs) ≡ tabled_lines es (take i rs) ++ line_for (place_as (tabled_place (get_or es i d).place (get_or rs i []))) (kind_of_error (get_or rs i []))
unfolding tabled_lines
tabled_suc [] rs i d l h = absurd (omega arith)
tabled_suc (x ∷ es) [] i d l h = absurd (omega arith)
tabled_suc (x ∷ es) (r ∷ rs) zero d l h = append-nil _
tabled_suc (x ∷ es) (r ∷ rs) (suc i) d l h = rw (tabled_suc es rs i d (omega arith) (omega arith), append_assoc)

-- of error i, where the lines of those in front of it are `at` bytes
module _ (es : List Entry) (rs : List (List ℕ)) (i : ℕ) (d : Entry) (p : Option Place) (kind : ℕ) (l : i < length es) (h : i < length rs)
    (is-place : p ≡ tabled_place (get_or es i d).place (get_or rs i [])) (is-kind : kind ≡ kind_of_error (get_or rs i []))
    (at : ℕ) (long : at ≡ length (tabled_lines es (take i rs))) where
  more : tabled_lines es (take (i + 1) rs) ≡ tabled_lines es (take i rs) ++ line_for (place_as p) kind
  more = rw (add-one, is-place, is-kind) (tabled_suc es rs i d l h)

  -- It ends where the lines do,
  pub more_end : (r : ℕ) → r ≡ at + length (line_for (place_as p) kind) → r ≡ length (tabled_lines es (take (i + 1) rs))
  more_end r e = rw more (simp length-append (omega arith))

  -- and put behind those in front of it, it makes the lines with it.
  pub put_more : (o o' o'' : List ℕ) → o' ≡ front o (tabled_lines es (take i rs)) → o'' ≡ put o' at (line_for (place_as p) kind)
      → o'' ≡ front o (tabled_lines es (take (i + 1) rs))
  put_more o o' o'' e g = g ∙ put_behind o (tabled_lines es (take i rs)) (line_for (place_as p) kind) o' at long e ∙ ap (front o) (sym more)

-- ---- a table of starts

-- The entry of one error more has its start.
pub noted_more : (rs : List (List ℕ)) (es es' : List Entry) (i : ℕ) (x : Entry) → i < length rs → i < length es'
    → starts es' ≡ front (starts es) (map start_of_error (take i rs)) → x.start ≡ start_of_error (get_or rs i [])
    → starts (set es' i x) ≡ front (starts es) (map start_of_error (take (i + 1) rs))
noted_more rs es es' i x h l e w =
    let long : i ≡ length (map start_of_error (take i rs)) = sym (length-map _ _ ∙ length-take-le i rs (omega arith)) in
    map-set (λ (y : Entry). y.start) es' i x
    ∙ put_one (starts es') i x.start (omega (arith, length-map es' (λ (y : Entry). y.start)))
    ∙ put_behind (starts es) (map start_of_error (take i rs)) (x.start ∷ []) (starts es') i long e
    ∙ ap (front (starts es)) (rw w (sym (map_more start_of_error rs i [] h)))
