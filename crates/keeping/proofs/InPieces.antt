-- An area in pieces: zeros behind an area that keeps its layout change nothing; and where its front is as long as any answer, it keeps its layout exactly where the
-- front does and the rest is zeros.
use mathlib.Core.Path.{◌≡◌, refl, sym, ap, ◌∙◌}
use mathlib.Core.Bool.{Bool, true, false, ◌&&◌}
use mathlib.Core.List.{List, [], ◌∷◌, ◌++◌}
use Prim.Native.Nat.{ℕ, ◌+◌, ◌*◌, ◌≤◌}
use native.Mathlib.Omega.{arith}
use borrow.Author.Tests.{le-leb}
use lib.Dec.{eqb}
use lib.ListN.{length, take, drop, get_or, length-append}
use lib.Seq.{take-append-le, drop-append-le}
use Rattle.std.proofs.Math.Bool.{and_assoc, and_comm}
use Rattle.functions.specs.Lists.{all, each}
use Rattle.ast.specs.Words.{words, records, section}
use Rattle.area.proofs.SectionsKept.{section_kept}
use Rattle.definitions.specs.Numbers.{most_bytes, header_length, node_length, stmt_length, variable_length, error_length}
use Rattle.definitions.specs.Area.{nodes_in, stmts_in, vars_in, deps_in, listed_in, header_in}
use Rattle.definitions.specs.Layout.{plain, counts_fit, nodes_at, stmts_at, vars_at, deps_at, errors_at, end_at, records_at, zeros, sections_fit, records_fit, headed_fits, keeps_layout}
use Rattle.keeping.specs.Placed.{Counted}
use Rattle.keeping.proofs.Begun.{counted, header_within, kept_parts}

-- ---- a section of the front

module _ (p q : List ℕ) where
  section_front : (w n at : ℕ) → at + 4 * (n * w) ≤ length p → section w n at (p ++ q) ≡ section w n at p
  section_front w n at h =
      section_kept w n at (length p) (p ++ q) p h (rw length-append (omega arith)) (omega arith) (take-append-le (length p) p q (omega arith))

  -- n words are one record of that width
  deps_front : (n at : ℕ) → at + 4 * n ≤ length p → take n (words (drop at (p ++ q))) ≡ take n (words (drop at p))
  unfolding section records
  deps_front n at h = ap (λ (rs : List (List ℕ)). get_or rs 0 []) (section_front n 1 at (omega arith))

  pub header_front : 4 * header_length ≤ length p → header_in (p ++ q) ≡ header_in p
  unfolding header_in
  header_front h = deps_front header_length 0 h

  pub records_in_front : (h : List ℕ) → end_at plain h ≤ length p → records_at plain h (p ++ q) ≡ records_at plain h p
  unfolding records_at end_at errors_at deps_at vars_at stmts_at nodes_at
  records_in_front h l =
      rw (
        section_front node_length (nodes_in h) (nodes_at plain h) (omega arith),
        section_front stmt_length (stmts_in h) (stmts_at plain h) (omega arith),
        section_front variable_length (vars_in h) (vars_at plain h) (omega arith),
        deps_front (deps_in h) (deps_at plain h) (omega arith),
        section_front error_length (listed_in h) (errors_at plain h) (omega arith),
      ) refl

-- ---- zeros

zeros_append : (x y : List ℕ) → zeros (x ++ y) ≡ (zeros x && zeros y)
unfolding zeros all
zeros_append [] y = refl
zeros_append (a ∷ x) y = ap (λ (t : Bool). eqb a 0 && t) (zeros_append x y) ∙ sym (and_assoc (eqb a 0) (zeros x) (zeros y))

-- Pieces are zeros where each of them is.
pub zeros_pieces : (qs : List (List ℕ)) → zeros (each (λ q. q) qs) ≡ all zeros qs
unfolding zeros all each
zeros_pieces [] = refl
zeros_pieces (q ∷ qs) = zeros_append q (each (λ r. r) qs) ∙ ap (λ (t : Bool). zeros q && t) (zeros_pieces qs)

-- ---- the whole

end_within : (h : List ℕ) → Counted h → end_at plain h ≤ most_bytes
unfolding end_at errors_at deps_at vars_at stmts_at nodes_at
end_within h w = omega (arith, w.nodes, w.stmts, w.vars, w.deps)

module _ (kinds : ℕ) (p q : List ℕ) where
  -- by the header h, where the front has all sections
  headed_front : (h : List ℕ) → end_at plain h ≤ length p → headed_fits plain kinds h (p ++ q) ≡ (headed_fits plain kinds h p && zeros q)
  unfolding headed_fits sections_fit
  headed_front h l =
      let l' : end_at plain h ≤ length (p ++ q) = rw length-append (omega arith) in
      rw (le-leb (end_at plain h) (length p) l, le-leb (end_at plain h) (length (p ++ q)) l', drop-append-le (end_at plain h) p q l, zeros_append (drop (end_at plain h) p) q, records_in_front p q h l)
      (simp and_assoc (ap (λ (t : Bool). counts_fit h && (zeros (drop (end_at plain h) p) && t)) (and_comm (zeros q) (records_fit kinds (records_at plain h p)))))

  over_front : (h : List ℕ) → counts_fit h ≡ false → headed_fits plain kinds h (p ++ q) ≡ (headed_fits plain kinds h p && zeros q)
  unfolding headed_fits
  over_front h e = rw e refl

  -- The front is judged alone, and the rest has to be zeros.
  pub front_and_rest : most_bytes ≤ length p → keeps_layout plain kinds (p ++ q) ≡ (keeps_layout plain kinds p && zeros q)
  unfolding keeps_layout header_in
  front_and_rest long =
      let e : header_in (p ++ q) ≡ header_in p = header_front p q (omega arith) in
      ap (λ (h : List ℕ). headed_fits plain kinds h (p ++ q)) e ∙ go (counts_fit (header_in p)) refl
    where
      go : (t : Bool) → counts_fit (header_in p) ≡ t → headed_fits plain kinds (header_in p) (p ++ q) ≡ (headed_fits plain kinds (header_in p) p && zeros q)
      go true w = headed_front (header_in p) (omega (arith, end_within (header_in p) (counted (header_in p) w)))
      go false w = over_front (header_in p) w

  -- Where an area keeps its layout, it does so with anything behind it exactly where that is zeros.
  pub kept_and_rest : keeps_layout plain kinds p ≡ true → keeps_layout plain kinds (p ++ q) ≡ zeros q
  unfolding keeps_layout header_in
  kept_and_rest k =
      let l : end_at plain (header_in p) ≤ length p = (kept_parts kinds p k).1 in
      let e : header_in (p ++ q) ≡ header_in p = header_front p q (header_within p l) in
      ap (λ (h : List ℕ). headed_fits plain kinds h (p ++ q)) e ∙ headed_front (header_in p) l ∙ ap (λ (t : Bool). t && zeros q) k
