-- A model's unknowns and statements by number: the first one's number and the count are those of its record.
use mathlib.Core.Path.{◌≡◌, sym, ap, ◌∙◌}
use mathlib.Core.Bool.{Bool}
use mathlib.Core.List.{List, []}
use Prim.Native.Nat.{ℕ, ◌+◌, ◌≤◌, ◌<◌}
use native.Mathlib.Omega.{arith}
use lib.ListN.{length, get_or}
use Rattle.std.specs.List.{list_any, range_with_len}
use Rattle.functions.specs.Lists.{any}
use Rattle.ast.specs.Tree.{Stmt, Unknown}
use Rattle.definitions.specs.Flatten.{model_at}
use Rattle.ast.specs.Words.{word_of}
use Rattle.ast.specs.Records.{unknown_of}
use Rattle.ast.specs.Opens.{Open, contents_in, file_in}
use Rattle.ast.specs.declared.sections.Sections.{Sections}
use Rattle.builder.specs.Checking.{unknown_in, stmt_in}
use Rattle.builder.proofs.laws.OpenRecords.{model_is, unknown_is}
use Rattle.builder.proofs.laws.Ranges.{any_along}

module _ (f : List ℕ) (s : Sections) (o : Open f s) (m : ℕ) (h : m < s.counts.models) (first count k : ℕ) where
  module _ (ef : first ≡ word_of (get_or (contents_in f s).models m []) 1) (ec : count ≡ word_of (get_or (contents_in f s).models m []) 2) where
    -- what stands before the end of the run is one of the unknowns
    pub unknowns_below : k < first + count → k < s.counts.unknowns
    unknowns_below l = omega (arith, (model_is f s o m h).unknowns_within)

  module _ (ef : first ≡ word_of (get_or (contents_in f s).models m []) 3) (ec : count ≡ word_of (get_or (contents_in f s).models m []) 4) where
    -- what stands before the end of the run is one of the statements
    pub stmts_below : k < first + count → k < s.counts.stmts
    stmts_below l = omega (arith, (model_is f s o m h).stmts_within)

-- ---- whether any passes, by their numbers

module _ (f : List ℕ) (s : Sections) (o : Open f s) (m : ℕ) (h : m < s.counts.models) (first count : ℕ) where
  pub unknowns_along : first ≡ word_of (get_or (contents_in f s).models m []) 1 → count ≡ word_of (get_or (contents_in f s).models m []) 2 → (p : Unknown → Bool)
      → list_any (λ u. p (unknown_in f s u)) (range_with_len first count) ≡ any p (model_at (file_in f s) m).unknowns
  unknowns_along ef ec p =
      let a = model_is f s o m h in
      ap (λ (n : ℕ). list_any (λ u. p (unknown_in f s u)) (range_with_len first n)) (ec ∙ sym a.unknowns_long)
      ∙ any_along (λ u. p (unknown_in f s u)) p (unknown_in f s 0) first (model_at (file_in f s) m).unknowns (λ k l. ap p (ap (λ (n : ℕ). unknown_in f s (n + k)) ef ∙ sym (a.unknown k _ (omega (arith, a.unknowns_long)))))

  pub stmts_along : first ≡ word_of (get_or (contents_in f s).models m []) 3 → count ≡ word_of (get_or (contents_in f s).models m []) 4 → (p : Stmt → Bool)
      → list_any (λ q. p (stmt_in f s q)) (range_with_len first count) ≡ any p (model_at (file_in f s) m).stmts
  stmts_along ef ec p =
      let a = model_is f s o m h in
      ap (λ (n : ℕ). list_any (λ q. p (stmt_in f s q)) (range_with_len first n)) (ec ∙ sym a.stmts_long)
      ∙ any_along (λ q. p (stmt_in f s q)) p (stmt_in f s 0) first (model_at (file_in f s) m).stmts (λ k l. ap p (ap (λ (n : ℕ). stmt_in f s (n + k)) ef ∙ sym (a.stmt k _ (omega (arith, a.stmts_long)))))

-- ---- an unknown of a model's run

pub record UnknownOf (f : List ℕ) (s : Sections) (m u i : ℕ) : Type 0 where
  pub below : u < s.counts.unknowns
  pub named : (unknown_in f s u).name < s.counts.names
  pub there : i < length (model_at (file_in f s) m).unknowns
  pub here : get_or (model_at (file_in f s) m).unknowns i (unknown_in f s u) ≡ unknown_in f s u

module _ (f : List ℕ) (s : Sections) (o : Open f s) (m : ℕ) (h : m < s.counts.models) (first count u i : ℕ) (eu : u ≡ first + i)
    (ef : first ≡ word_of (get_or (contents_in f s).models m []) 1) (ec : count ≡ word_of (get_or (contents_in f s).models m []) 2) where
  pub unknown_of_run : u < first + count → UnknownOf f s m u i
  unfolding unknown_of
  unknown_of_run l =
      let a = model_is f s o m h in
      let below = unknowns_below f s o m h first count u ef ec l in
      record {
        below = below;
        named = (unknown_is f s o u below).name_below;
        there = omega (arith, a.unknowns_long, ec, eu);
        here = a.unknown i _ (omega (arith, ec, eu)) ∙ ap (unknown_in f s) (sym (eu ∙ ap (λ (k : ℕ). k + i) ef));
      }

  -- the run has all unknowns of the model
  pub run_all : first + count ≤ u → length (model_at (file_in f s) m).unknowns ≤ i
  run_all l = omega (arith, (model_is f s o m h).unknowns_long, ec, eu)
