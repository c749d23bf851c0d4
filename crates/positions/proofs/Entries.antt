-- A table's entries, one by one: the first ones are of the text with the piece, the others of the text without it.
use mathlib.Core.Path.{◌≡◌, refl, sym, ap, subst, ◌∙◌}
use mathlib.Core.List.{List, [], ◌∷◌, ◌++◌, map, append-nil}
use Prim.Native.Nat.{ℕ, suc, ◌+◌, ◌≤◌, ◌<◌}
use native.Mathlib.Omega.{arith}
use lib.ListN.{length, take, drop, get_or, set}
use Rattle.std.specs.Prelude.{Option}
use Rattle.positions.specs.declared.End.{End}
use Rattle.positions.specs.declared.Entry.{Entry}
use lib.Seq.{length-take-le, take_all, drop-cons, get_or_at}
use Rattle.std.proofs.lemmas.List.{length-map, get_or-map, drop_all}
use Rattle.std.proofs.lemmas.List.Edits.{map_over_more}
use Rattle.positions.specs.declared.Place.{Place}
use Rattle.positions.specs.Positions.{place_of}
use Rattle.positions.specs.Pieces.{EndOf, starts, placed, Taken, Standing, OfText}

-- an entry with the place of its start in the text t
abbrev pub seen : List ℕ → Entry → Entry
seen t x = record { start = x.start; place = place_of t x.start }

-- The entries of a table, each seen, are the table of the text.
pub seen_placed : (t : List ℕ) (es : List Entry) → map (seen t) es ≡ placed t (starts es)
unfolding placed
seen_placed t [] = refl
seen_placed t (x ∷ es) = ap (λ z. seen t x ∷ z) (seen_placed t es)

starts_placed : (t ss : List ℕ) → starts (placed t ss) ≡ ss
unfolding placed
starts_placed t [] = refl
starts_placed t (s ∷ ss) = ap (λ z. s ∷ z) (starts_placed t ss)

-- The starts of the table of a text are those that it was made of.
pub starts_of : (t ss : List ℕ) (es : List Entry) → es ≡ placed t ss → starts es ≡ ss
starts_of t ss es e = ap starts e ∙ starts_placed t ss

-- An entry of the table of a text has the place of its start in it.
place_in : (t ss : List ℕ) (es : List Entry) (i : ℕ) (d : Entry) → es ≡ placed t ss → i < length es → (get_or es i d).place ≡ place_of t (get_or es i d).start
unfolding placed
place_in t ss es i d e l =
    let f : ℕ → Entry = λ s. record { start = s; place = place_of t s } in
    let k : i < length ss = omega (arith, ap length e ∙ length-map ss f) in
    let r : get_or es i d ≡ f (get_or ss i 0) = ap (λ (z : List Entry). get_or z i d) e ∙ get_or-map f ss i 0 d k in
    rw r refl

-- ---- one entry more

-- x is entry i, where those below i have their places in the text t
module _ (t : List ℕ) (os es : List Entry) (i : ℕ) (x : Entry) (l : i < length os) (e : es ≡ map (seen t) (take i os) ++ drop i os) (is : x ≡ get_or es i x) where
  pub seen_more : (p : Option Place) → p ≡ place_of t x.start → set es i (record { start = x.start; place = p }) ≡ map (seen t) (take (i + 1) os) ++ drop (i + 1) os
  seen_more p h = rw h (map_over_more (seen t) os es i x l e is)

  -- Its place is still the one that it had.
  pub seen_left : (u ss : List ℕ) → os ≡ placed u ss → x.place ≡ place_of u x.start
  seen_left u ss h =
      let front = map (seen t) (take i os) in
      let long : length front ≡ i = length-map _ _ ∙ length-take-le i os (omega arith) in
      let still : get_or es i x ≡ get_or os i x = rw (e, drop-cons os i x l) (get_or_at front (get_or os i x) (drop (suc i) os) x i long) in
      subst (λ (z : Entry). z.place ≡ place_of u z.start) (sym (is ∙ still)) (place_in u ss os i x h l)

-- The last one has it too.
pub seen_all : (t : List ℕ) (os es : List Entry) (i : ℕ) → length os ≤ i → es ≡ map (seen t) (take i os) ++ drop i os → es ≡ placed t (starts os)
seen_all t os es i l e = e ∙ rw (take_all i os l, drop_all i os l, append-nil) (seen_placed t os)

-- ---- a text that is read

-- The end of a text and its table, a piece further.
pub stands_on : (e r : End) (b ss : List ℕ) (es es' : List Entry) → Standing e ss es → Taken e b r es es' → Standing r ss es'
stands_on e r b ss es es' s k =
    record { text = s.text ++ b; is_end = k.passed.is_end s.text s.is_end; placed = k.advanced.placed s.text ss s.is_end s.placed }

-- A table that stands is that of a text.
pub texts : {e : End} {ss : List ℕ} {es : List Entry} → Standing e ss es → OfText ss es
texts s = record { text = s.text; placed = s.placed }

-- The end of no text and its table.
pub stands_first : {ss : List ℕ} {es : List Entry} (e : End) → EndOf e [] → es ≡ placed [] ss → Standing e ss es
stands_first e g p = record { text = []; is_end = g; placed = p }
