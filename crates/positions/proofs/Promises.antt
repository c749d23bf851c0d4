-- Read this first: what lines and columns are, and that a text in pieces has those of the whole text.
use mathlib.Core.Path.{◌≡◌, refl, sym, ap, subst, ◌∙◌}
use mathlib.Core.Bool.{Bool, true, false}
use mathlib.Core.List.{List, [], ◌∷◌, ◌++◌, append_assoc, append-nil}
use Prim.Native.Nat.{ℕ, suc, ◌+◌}
use native.Mathlib.Omega.{arith}
use lib.ListN.{length, take, length-append}
use Rattle.functions.specs.Lists.{times, flag, each}
use Rattle.positions.specs.declared.End.{End}
use Rattle.positions.specs.declared.Entry.{Entry}
use Rattle.positions.specs.Positions.{newline, is_newline, line_of, below, column_of}
use Rattle.positions.specs.Pieces.{EndOf, placed, Follows, none, more}
use Rattle.positions.proofs.Growing.{column_stays, column_newline, column_other, length_last}

-- The line of a place is 1 plus the newline bytes before it.
pub line_counts : (text : List ℕ) (start : ℕ) → line_of text start ≡ 1 + times is_newline (take start text)
unfolding line_of
line_counts text start = refl

-- bytes without a newline: the first is none, and the others have none
no_newline : (x : ℕ) (b : List ℕ) → times is_newline (x ∷ b) ≡ 0 → (is_newline x ≡ false) × (times is_newline b ≡ 0)
unfolding times flag
no_newline x b h = (go (is_newline x) refl, omega arith)
  where
    go : (z : Bool) → is_newline x ≡ z → is_newline x ≡ false
    go true e = absurd (omega (arith, ap flag e))
    go false e = e

-- bytes without a newline, behind a text: the column grows by one for each
column_run : (t b : List ℕ) → times is_newline b ≡ 0 → column_of (t ++ b) (length (t ++ b)) ≡ column_of t (length t) + length b
column_run t [] h = rw append-nil (omega arith)
column_run t (x ∷ b) h =
    let n = no_newline x b h in
    let u = t ++ x ∷ [] in
    let c : column_of u (length u) ≡ column_of t (length t) + 1 = rw length_last (column_other t x n.0) in
    let w : u ++ b ≡ t ++ x ∷ b = append_assoc t (x ∷ []) b in
    subst (λ (z : List ℕ). column_of z (length z) ≡ column_of t (length t) + suc (length b)) w (column_run u b n.1 ∙ omega (arith, c))

-- where a line begins behind t, and b is what of that line stands before the place n
column_on : (t b c : List ℕ) (n : ℕ) → n ≡ length (t ++ b) → column_of t (length t) ≡ 1 → times is_newline b ≡ 0
    → column_of (t ++ (b ++ c)) n ≡ 1 + length b
column_on t b c n l e h =
    let w : t ++ (b ++ c) ≡ (t ++ b) ++ c = sym (append_assoc t b c) in
    rw (l, w) (column_stays (t ++ b) c (length (t ++ b)) (omega arith) ∙ column_run t b h ∙ omega (arith, e))

-- On the first line, which no newline has ended yet, the column is 1 plus all the bytes before the place.
pub column_first : (b c : List ℕ) → times is_newline b ≡ 0 → column_of (b ++ c) (length b) ≡ 1 + length b
unfolding column_of below times
column_first b c h = column_on [] b c (length b) refl refl h

-- On a later line it is 1 plus the bytes between the last newline and the place.
pub column_since : (a b c : List ℕ) → times is_newline b ≡ 0 → column_of ((a ++ newline ∷ []) ++ (b ++ c)) (length a + 1 + length b) ≡ 1 + length b
column_since a b c h =
    let t = a ++ newline ∷ [] in
    let l = length_last a newline in
    column_on t b c (length a + 1 + length b) (omega (arith, length-append t b, l)) (rw l (column_newline a newline refl)) h

-- pieces behind a text t
pieces_from : (t ss : List ℕ) (e r : End) (ps : List (List ℕ)) (es es' : List Entry) → EndOf e t → es ≡ placed t ss → Follows e ps r es es'
    → es' ≡ placed (t ++ each (λ p. p) ps) ss
unfolding each
pieces_from t ss e r ps es es' g h none = rw append-nil h
pieces_from t ss e r (p ∷ ps) es es' g h (more f es'' k o) =
    let d = pieces_from (t ++ p) ss f r ps es'' es' (k.passed.is_end t g) (k.advanced.placed t ss g h) o in
    subst (λ (x : List ℕ). es' ≡ placed x ss) (append_assoc t p (each (λ (z : List ℕ). z) ps)) d

-- A text that is read in pieces has the table of the whole text, which is the pieces joined.
pub in_pieces : (ss : List ℕ) (e r : End) (ps : List (List ℕ)) (es es' : List Entry) → EndOf e [] → es ≡ placed [] ss → Follows e ps r es es'
    → es' ≡ placed (each (λ p. p) ps) ss
in_pieces ss e r ps es es' g h o = pieces_from [] ss e r ps es es' g h o
