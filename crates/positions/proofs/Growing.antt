-- A text that grows: the line and the column of a place in it stay, and its end moves on byte by byte.
use mathlib.Core.Path.{◌≡◌, refl, sym, ap, ap₂, ◌∙◌}
use mathlib.Core.Bool.{Bool, true, false}
use mathlib.Core.Logic.{◌≢◌}
use mathlib.Core.List.{List, [], ◌∷◌, ◌++◌, append_assoc, append-nil}
use Rattle.std.specs.Prelude.{Option, None, Some}
use Prim.Native.Nat.{ℕ, suc, ◌+◌, ◌≤◌, ◌<◌}
use native.Mathlib.Omega.{arith}
use native.Mathlib.Numerals.{add-one}
use borrow.Author.Tests.{le-leb, lt-leb, eq-eqb, ne_eqb}
use lib.Dec.{eqb}
use lib.ListN.{length, take, drop, get_or, length-append, length-take, take-append-drop}
use lib.Seq.{take-append-le, take-length, take_all, take-suc}
use Rattle.functions.specs.Lists.{times, flag}
use Rattle.positions.specs.declared.End.{End}
use Rattle.positions.specs.declared.Place.{Place}
use Rattle.positions.specs.Positions.{newline, is_newline, line_of, below, column_of, place_of}
use Rattle.positions.specs.Pieces.{EndOf, Passed, Found}
use Rattle.positions.proofs.Counting.{times_append, times_front, times_same, times_none}

-- ---- what stands before the end stays

-- The line of a place does not change when bytes come behind the text.
line_stays : (t u : List ℕ) (j : ℕ) → j ≤ length t → line_of (t ++ u) j ≡ line_of t j
unfolding line_of
line_stays t u j h = omega (arith, ap (times is_newline) (take-append-le j t u h))

-- Nor does its column.
pub column_stays : (t u : List ℕ) (s : ℕ) → s ≤ length t → column_of (t ++ u) s ≡ column_of t s
unfolding column_of
column_stays t u s h =
    let on : List ℕ → ℕ → Bool = λ x j. eqb (line_of x j) (line_of x s) in
    omega (arith, times_same (on (t ++ u)) (on t) s (λ j l. ap₂ eqb (line_stays t u j (omega arith)) (line_stays t u s h)))

place_there : (t : List ℕ) (s : ℕ) → s ≤ length t → place_of t s ≡ Some (record { line = line_of t s; column = column_of t s })
unfolding place_of
place_there t s h = rw (le-leb s (length t) h) refl

place_beyond : (t : List ℕ) (s : ℕ) → length t < s → place_of t s ≡ None
unfolding place_of
place_beyond t s h = rw (lt-leb s (length t) h) refl

pub place_stays : (t u : List ℕ) (s : ℕ) → s ≤ length t → place_of (t ++ u) s ≡ place_of t s
place_stays t u s h =
    place_there (t ++ u) s (rw length-append (omega arith))
    ∙ (λ i. Some (record { line = line_stays t u s h i; column = column_stays t u s h i }))
    ∙ sym (place_there t s h)

-- What stands behind the end of both texts has no place in either.
place_waits : (t u : List ℕ) (s : ℕ) → length t + length u < s → place_of (t ++ u) s ≡ place_of t s
place_waits t u s h = place_beyond (t ++ u) s (rw length-append (omega arith)) ∙ sym (place_beyond t s (omega arith))

-- The end of a part of the text is the place there, in the whole text.
place_end : (t u : List ℕ) (n s : ℕ) (r : End) → n ≤ length u → s ≡ length t + n → EndOf r (t ++ take n u)
    → Some (record { line = r.line; column = r.column }) ≡ place_of (t ++ u) s
place_end t u n s r h e g =
    let x = t ++ take n u in
    let l : length x ≡ s = length-append t (take n u) ∙ simp length-take (omega arith) in
    let w : x ++ drop n u ≡ t ++ u = append_assoc t (take n u) (drop n u) ∙ ap (λ (z : List ℕ). t ++ z) (take-append-drop n u) in
    (λ i. Some (record { line = g.line i; column = g.column i }))
    ∙ (λ i. Some (record { line = line_of x (l i); column = column_of x (l i) }))
    ∙ sym (place_there x s (omega (arith, l))) ∙ sym (place_stays x (drop n u) s (omega (arith, l))) ∙ ap (λ (z : List ℕ). place_of z s) w

-- ---- the end, one byte on

line_before : (t : List ℕ) (j : ℕ) → j ≤ length t → line_of t j ≤ line_of t (length t)
unfolding line_of
line_before t j h = omega (arith, times_front is_newline j (length t) t h)

-- A newline begins a line, any other byte stays on its own.
line_last : (t : List ℕ) (b : ℕ) → line_of (t ++ b ∷ []) (suc (length t)) ≡ line_of t (length t) + flag (is_newline b)
unfolding line_of times
line_last t b =
    omega (
      arith,
      times_append is_newline t (b ∷ []),
      ap (times is_newline) (take-length t),
      ap (times is_newline) (take_all (suc (length t)) (t ++ b ∷ []) (rw length-append (omega arith))),
    )

-- Behind a newline the column is 1: every place before it is on an earlier line.
pub column_newline : (t : List ℕ) (b : ℕ) → is_newline b ≡ true → column_of (t ++ b ∷ []) (suc (length t)) ≡ 1
unfolding column_of flag
column_newline t b h =
    let n = suc (length t) in
    let x = t ++ b ∷ [] in
    let earlier : (j : ℕ) → j < n → line_of x j ≢ line_of x n = λ j l e.
    omega (arith, e, line_stays t (b ∷ []) j (omega arith), line_before t j (omega arith), line_last t b, ap flag h) in
    omega (arith, times_none (λ j. eqb (line_of x j) (line_of x n)) n (λ j l. ne_eqb (line_of x j) (line_of x n) (earlier j l)))

-- Behind any other byte it is one more than before it.
pub column_other : (t : List ℕ) (b : ℕ) → is_newline b ≡ false → column_of (t ++ b ∷ []) (suc (length t)) ≡ column_of t (length t) + 1
unfolding column_of flag below times
column_other t b h =
    let n = length t in
    let x = t ++ b ∷ [] in
    let last : line_of x (suc n) ≡ line_of t n = line_last t b ∙ omega (arith, ap flag h) in
    let here : eqb (line_of x n) (line_of x (suc n)) ≡ true = eq-eqb _ _ (line_stays t (b ∷ []) n (omega arith) ∙ sym last) in
    let on : ℕ → Bool = λ j. eqb (line_of x j) (line_of x (suc n)) in
    omega (
      arith,
      times_append on (below n) (n ∷ []),
      times_same on (λ j. eqb (line_of t j) (line_of t n)) n (λ j l. ap₂ eqb (line_stays t (b ∷ []) j (omega arith)) last),
      ap flag here,
    )

pub length_last : (t : List ℕ) (b : ℕ) → length (t ++ b ∷ []) ≡ suc (length t)
length_last t b = rw length-append (omega arith)

module _ (e : End) (b : ℕ) (r : End) (size : r.size ≡ e.size + 1) where
  pub after_newline : b ≡ newline → r.line ≡ e.line + 1 → r.column ≡ 1 → Passed e (b ∷ []) r
  unfolding flag
  after_newline k p q =
      let n : is_newline b ≡ true = eq-eqb b newline k in
      record {
        size = size;
        is_end = λ t g.
            let l = length_last t b in
            record {
              size = omega (arith, g.size, l);
              line = rw l (omega (arith, g.line, line_last t b, ap flag n));
              column = rw l (q ∙ sym (column_newline t b n));
            };
      }

  pub after_other : (b ≡ newline → ⊥) → r.line ≡ e.line → r.column ≡ e.column + 1 → Passed e (b ∷ []) r
  unfolding flag
  after_other k p q =
      let n : is_newline b ≡ false = ne_eqb b newline k in
      record {
        size = size;
        is_end = λ t g.
            let l = length_last t b in
            record {
              size = omega (arith, g.size, l);
              line = rw l (omega (arith, g.line, line_last t b, ap flag n));
              column = rw l (omega (arith, g.column, column_other t b n));
            };
      }

-- ---- the end, several bytes on

pub passed_none : (e : End) → Passed e [] e
passed_none e = record { size = omega arith; is_end = λ t g. rw append-nil g }

-- One byte more of the list u.
pub passed_more : (e f r : End) (u : List ℕ) (n : ℕ) → n < length u → Passed e (take n u) f → Passed f (get_or u n 0 ∷ []) r → Passed e (take (n + 1) u) r
passed_more e f r u n h x y =
    let b = get_or u n 0 ∷ [] in
    let w : take (n + 1) u ≡ take n u ++ b = rw add-one (take-suc u n 0 h) in
    record {
      size = omega (arith, x.size, y.size, ap length w, length-append (take n u) b);
      is_end = λ t g.
          let z : (t ++ take n u) ++ b ≡ t ++ take (n + 1) u = append_assoc t (take n u) b ∙ ap (λ (z : List ℕ). t ++ z) (sym w) in
          rw z at (y.is_end (t ++ take n u) (x.is_end t g));
    }

-- The first bytes of a list, as many as it has, are the list.
pub passed_all : (e r : End) (u : List ℕ) → Passed e (take (length u) u) r → Passed e u r
passed_all e r u h = rw (take-length u) at h

-- ---- a start and a piece

module _ (e : End) (u : List ℕ) (start : ℕ) (old : Option Place) where
  -- A start in the text so far has its place already.
  pub found_before : start ≤ e.size → Found e u start old old
  found_before h = λ t g k. k ∙ sym (place_stays t u start (omega (arith, g.size)))

  -- One behind the piece has none yet.
  pub found_later : e.size + length u < start → Found e u start old old
  found_later h = λ t g k. k ∙ sym (place_waits t u start (omega (arith, g.size)))

  -- One in the piece, n bytes in, has that of the end there.
  pub found_here : (n : ℕ) (r : End) → n ≤ length u → start ≡ e.size + n → Passed e (take n u) r
      → Found e u start old (Some (record { line = r.line; column = r.column }))
  found_here n r h l p = λ t g _. place_end t u n start r h (omega (arith, g.size)) (p.is_end t g)

-- ---- no text

pub first_zero : (start : ℕ) → start ≡ 0 → Some (record { line = 1; column = 1 }) ≡ place_of [] start
unfolding place_of line_of column_of times below
first_zero start e = rw e refl

pub first_none : (start : ℕ) → (start ≡ 0 → ⊥) → None ≡ place_of [] start
first_none start n = sym (place_beyond [] start (omega arith))

pub end_first : (r : End) → r.size ≡ 0 → r.line ≡ 1 → r.column ≡ 1 → EndOf r []
unfolding line_of column_of times below
end_first r p q s = record { size = p; line = q; column = s }
