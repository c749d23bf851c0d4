-- A text that comes in pieces: what is kept from one piece to the next, and what it says of the text so far.
use Rattle.std.specs.Prelude.{ℕ, ◌+◌, ◌≡◌, Option, List, [], ◌∷◌, ◌++◌, length, map}
use Rattle.positions.specs.declared.End.{End}
use Rattle.positions.specs.declared.Entry.{Entry}
use Rattle.positions.specs.declared.Place.{Place}
use Rattle.positions.specs.Positions.{line_of, column_of, place_of}

-- e is the end of a text: its length, and the line and the column there.
pub record EndOf (e : End) (text : List ℕ) : Type 0 where
  pub size : e.size ≡ length text
  pub line : e.line ≡ line_of text (length text)
  pub column : e.column ≡ column_of text (length text)

-- Of whatever text e is the end, r is the end when the bytes b have come behind it.
pub record Passed (e : End) (b : List ℕ) (r : End) : Type 0 where
  pub size : r.size ≡ e.size + length b
  pub is_end : (t : List ℕ) → EndOf e t → EndOf r (t ++ b)

-- r is the place of a start when the bytes b have come behind the text whose end is e, where it was `old` before.
abbrev pub Found : End → List ℕ → ℕ → Option Place → Option Place → Type 0
Found e b start old r = (t : List ℕ) → EndOf e t → old ≡ place_of t start → r ≡ place_of (t ++ b) start

-- ---- a table: entries, each a start with a place

-- the starts in a table
abbrev pub starts : List Entry → List ℕ
starts es = map (λ x. x.start) es

-- their places
abbrev pub places : List Entry → List (Option Place)
places es = map (λ x. x.place) es

-- The table of the text t: its starts, each with its place in the text.
unfoldable pub placed : List ℕ → List ℕ → List Entry
placed t ss = map (λ s. record { start = s; place = place_of t s }) ss

-- The table of whatever text e is the end of becomes that of the text with the bytes b behind it. The starts are the same of any table.
pub record Advanced (e : End) (b : List ℕ) (es es' : List Entry) : Type 0 where
  pub starts : starts es' ≡ starts es
  pub placed : (t ss : List ℕ) → EndOf e t → es ≡ placed t ss → es' ≡ placed (t ++ b) ss

-- A piece b is taken in: r is the end behind it, and the table has advanced by it.
pub record Taken (e : End) (b : List ℕ) (r : End) (es es' : List Entry) : Type 0 where
  pub passed : Passed e b r
  pub advanced : Advanced e b es es'

-- Pieces are taken in one after the other: they lead from the end e and the table there to the end r and that there.
pub data Follows : End → List (List ℕ) → End → List Entry → List Entry → Type 0 where
  none : {e : End} {es : List Entry} → Follows e [] e es es
  more : {e r : End} {p : List ℕ} {ps : List (List ℕ)} {es es'' : List Entry} (f : End) (es' : List Entry) → Taken e p f es es' → Follows f ps r es' es''
      → Follows e (p ∷ ps) r es es''

-- ---- a text that is read: which bytes come is not known, but what stands in the table is of them all

-- e is the end of a text, and the table is of that text.
pub record Standing (e : End) (ss : List ℕ) (es : List Entry) : Type 0 where
  pub text : List ℕ
  pub is_end : EndOf e text
  pub placed : es ≡ placed text ss

-- The table is that of a text.
pub record OfText (ss : List ℕ) (es : List Entry) : Type 0 where
  pub text : List ℕ
  pub placed : es ≡ placed text ss
