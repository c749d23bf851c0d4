-- What is printed from files that are read in pieces is what is printed of the whole files.
use mathlib.Core.Path.{◌≡◌, refl, sym, ap, ap₂, ◌∙◌}
use mathlib.Core.Bool.{Bool, true, false, ◌&&◌}
use mathlib.Core.List.{List, [], ◌∷◌, ◌++◌}
use Prim.Native.Nat.{ℕ, zero, suc, ◌^◌, ◌≤◌, ◌<◌}
use native.Mathlib.Omega.{arith}
use lib.ListN.{length, take, drop}
use Rattle.std.specs.Prelude.{Option}
use Rattle.functions.specs.Lists.{all, each}
use Rattle.ast.specs.Words.{words, word_of, section}
use Rattle.ast.specs.WellFormed.{Each}
use Rattle.ast.proofs.ToBytes.{Small, all_bytes, words_small, every_drop, records_small}
use Rattle.definitions.specs.Numbers.{most_bytes, header_length, error_length}
use Rattle.definitions.specs.Answer.{Area}
use Rattle.definitions.specs.Area.{header_in, are_bytes}
use Rattle.definitions.specs.Layout.{plain, most_kind, errors_at, end_at, kind_of_error, zeros, records_at, keeps_layout}
use Rattle.positions.specs.declared.Place.{Place}
use Rattle.positions.specs.Positions.{place_of, shown_for}
use Rattle.positions.proofs.Growing.{place_stays}
use Rattle.keeping.proofs.Begun.{header_within, kept_parts}
use Rattle.keeping.proofs.InPieces.{header_front, records_in_front, zeros_pieces, front_and_rest, kept_and_rest}
use Rattle.report.specs.Lines.{start_of_error, end_of_error, line_for, place_as, place_of_error, error_line, listed_errors, lines}
use Rattle.report.proofs.Tables.{lines_are, no_line}

-- ---- the area

-- Whatever stands behind an area that keeps its layout, the listed errors are the same.
listed_front : (p q : List ℕ) → keeps_layout plain most_kind p ≡ true → listed_errors plain (p ++ q) ≡ listed_errors plain p
unfolding listed_errors header_in
listed_front p q kept =
    let l : end_at plain (header_in p) ≤ length p = (kept_parts most_kind p kept).1 in
    ap (λ (h : List ℕ). (records_at plain h (p ++ q)).errors) (header_front p q (header_within p l)) ∙ ap (λ (x : Area). x.errors) (records_in_front p q (header_in p) l)

module _ (front text : List ℕ) where
  -- Where its front is as long as any answer and breaks the layout, nothing is printed, whatever stands behind.
  pub front_broken : (rest : List ℕ) → most_bytes ≤ length front → keeps_layout plain most_kind front ≡ false → lines (front ++ rest) text ≡ []
  front_broken rest long broken = no_line (front ++ rest) text (front_and_rest most_kind front rest long ∙ ap (λ (b : Bool). b && zeros rest) broken)

  module _ (kept : keeps_layout plain most_kind front ≡ true) (rest : List (List ℕ)) where
    kept_with : keeps_layout plain most_kind (front ++ each (λ q. q) rest) ≡ all zeros rest
    kept_with = kept_and_rest most_kind front (each (λ q. q) rest) kept ∙ zeros_pieces rest

    -- Where the front keeps it and a piece of the rest is not all zeros, nothing is printed.
    pub rest_broken : all zeros rest ≡ false → lines (front ++ each (λ q. q) rest) text ≡ []
    rest_broken h = no_line (front ++ each (λ q. q) rest) text (kept_with ∙ h)

    -- Where all the rest is zeros, what is printed is what the front prints.
    pub rest_zeros : all zeros rest ≡ true → lines (front ++ each (λ q. q) rest) text ≡ lines front text
    rest_zeros h =
        let whole = front ++ each (λ q. q) rest in
        lines_are whole text (kept_with ∙ h) ∙ ap (each (error_line text)) (listed_front front (each (λ q. q) rest) kept) ∙ sym (lines_are front text kept)

-- ---- the text

-- a word of a record of words of 32 bits
word_small : (r : List ℕ) (k : ℕ) → Small r → word_of r k < 2 ^ 32
unfolding word_of
word_small [] k h = omega arith
word_small (x ∷ r) zero h = omega (arith, h.0)
word_small (x ∷ r) (suc k) h = unfold word_of in word_small r k h.1

-- no start of an error lies behind so many bytes
lines_enough : (text more : List ℕ) (rs : List (List ℕ)) → 2 ^ 32 ≤ length text → Each Small rs → each (error_line (text ++ more)) rs ≡ each (error_line text) rs
unfolding each error_line place_of_error
lines_enough text more [] long h = refl
lines_enough text more (r ∷ rs) long h =
    let small : start_of_error r < 2 ^ 32 = word_small r 1 h.0 in
    let place : place_of (text ++ more) (start_of_error r) ≡ place_of text (start_of_error r) = place_stays text more (start_of_error r) (omega arith) in
    ap₂ ◌++◌ (ap (λ (p : Option Place). line_for (place_as (shown_for (start_of_error r) (end_of_error r) p)) (kind_of_error r)) place) (lines_enough text more rs long h.1)

-- the words of an area of bytes are of 32 bits
listed_small : (area : List ℕ) → are_bytes area ≡ true → Each Small (listed_errors plain area)
unfolding listed_errors records_at are_bytes section
listed_small area bytes =
    let at = errors_at plain (take header_length (words area)) in
    records_small error_length _ _ (words_small (drop at area) (every_drop (λ b. b < 256) at area (all_bytes area bytes)))

-- Of an area of bytes, what stands in a text behind 2^32 bytes is not asked for.
pub text_enough : (area text more : List ℕ) → are_bytes area ≡ true → 2 ^ 32 ≤ length text → lines area (text ++ more) ≡ lines area text
text_enough area text more bytes long = go (keeps_layout plain most_kind area) refl
  where
    go : (b : Bool) → keeps_layout plain most_kind area ≡ b → lines area (text ++ more) ≡ lines area text
    go true k = lines_are area (text ++ more) k ∙ lines_enough text more (listed_errors plain area) long (listed_small area bytes) ∙ sym (lines_are area text k)
    go false k = no_line area (text ++ more) k ∙ sym (no_line area text k)
