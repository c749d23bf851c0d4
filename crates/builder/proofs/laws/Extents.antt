-- How big flattened statements are, counted along a descent: each number goes to one more than its most.
use mathlib.Core.Path.{◌≡◌, refl, sym, ap, ◌∙◌, subst}
use mathlib.Core.Bool.{true, ◌&&◌}
use mathlib.Core.List.{List, [], ◌++◌, map}
use Prim.Native.Nat.{ℕ, ◌+◌, ◌-◌, ◌*◌, ◌≤◌, ◌<◌}
use native.Mathlib.Omega.{arith}
use borrow.Author.Tests.{ltb-true}
use lib.Dec.{ltb}
use lib.ListN.{length, take, get_or, length-append}
use Rattle.functions.specs.Lists.{sum_of}
use Rattle.functions.proofs.Lists.{and_both}
use Rattle.ast.specs.Tree.{Flat, Stmt, flat_size}
use Rattle.ast.specs.Records.{kind_of_stmt, first_stmt, stmt_count}
use Rattle.ast.specs.Levels.{through_flat}
use Rattle.ast.specs.Rows.{levels_of, at_most}
use Rattle.ast.specs.Opens.{Open, contents_in, file_in}
use Rattle.ast.specs.declared.sections.Sections.{Sections}
use Rattle.definitions.specs.Flatten.{model_at, stmt_flats, flatten}
use Rattle.definitions.proofs.ListLaws.{sum_append}
use Rattle.builder.specs.Descent.{flat_at, brought_at, RowsIn, RowsKept, OwnAt}
use Rattle.builder.specs.Extents.{Counted, Extended}
use Rattle.builder.specs.declared.extent.counts.FlatExtent.{FlatExtent}
use Rattle.builder.proofs.laws.OpenRecords.{model_is, own_stmt}
use Rattle.builder.proofs.laws.Descents.{rest, rest_next, rest_end, rest_all}

-- ---- statements added to an extent

-- no statements
pub extended_none : (done : FlatExtent) (qs : List Flat) → Counted done → qs ≡ [] → Extended done qs done
unfolding at_most sum_of
extended_none done qs h e = record { stmts = rw e (omega (arith, h.stmts)); nodes = rw e (omega (arith, h.nodes)) }

-- any, where both numbers are beyond their mosts
pub extended_full : (done : FlatExtent) (qs : List Flat) → Counted done → (ltb 256 done.stmts && ltb 1024 done.nodes) ≡ true → Extended done qs done
unfolding at_most
extended_full done qs h e =
    let (a, b) = and_both _ _ e in
    let x = ltb-true 256 done.stmts a in
    let y = ltb-true 1024 done.nodes b in
    record { stmts = omega (arith, h.stmts, x); nodes = omega (arith, h.nodes, y) }

-- the same statements
pub extended_same : (done r : FlatExtent) (xs ys : List Flat) → xs ≡ ys → Extended done xs r → Extended done ys r
extended_same done r xs ys e h = subst (λ qs. Extended done qs r) e h

-- some after others
extended_then : (done total r : FlatExtent) (xs ys : List Flat) → Extended done xs total → Extended total ys r → Extended done (xs ++ ys) r
unfolding at_most
extended_then done total r xs ys g h =
    record { stmts = omega (arith, g.stmts, h.stmts, length-append xs ys); nodes = omega (arith, g.nodes, h.nodes, sum_append flat_size xs ys) }

-- whatever is added, no number goes beyond one more than its most
extended_counted : (done r : FlatExtent) (qs : List Flat) → Extended done qs r → Counted r
unfolding at_most
extended_counted done r qs h = record { stmts = omega (arith, h.stmts); nodes = omega (arith, h.nodes) }

-- ---- a statement of its own

-- it brings in itself alone
own_one : (f : List ℕ) (s : Sections) → Open f s → (rows : List ℕ) (level q : ℕ) (sub : ℕ → List Flat) → q < s.counts.stmts
    → (kind_of_stmt (get_or (contents_in f s).stmts q []) ≡ 3 → ⊥) → length (brought_at f s rows level sub q) ≡ 1
unfolding stmt_flats
own_one f s o rows level q sub l n =
    let (e, g) = own_stmt f s o q l n in
    ap (λ (x : Stmt). length (map (through_flat (levels_of (contents_in f s).nodes rows level)) (stmt_flats (file_in f s) sub x))) g

-- one more statement, with its trees' nodes
pub own_extended : (f : List ℕ) (s : Sections) (rows : List ℕ) (level q : ℕ) → OwnAt f s rows level q → (done : FlatExtent) → Counted done → (stmts n : ℕ) → stmts ≡ at_most 257 (done.stmts + 1)
    → ((sub : ℕ → List Flat) → n ≡ at_most (1025 - done.nodes) (sum_of flat_size (brought_at f s rows level sub q)))
    → (sub : ℕ → List Flat) → Extended done (brought_at f s rows level sub q) (record { stmts = stmts; nodes = done.nodes + n })
unfolding at_most
own_extended f s rows level q w done h stmts n e g sub =
    record { stmts = omega (arith, e, own_one f s w.opened rows level q sub w.within w.own); nodes = omega (arith, g sub, h.nodes) }

-- ---- the statements of a model, in a loop

module _ (f : List ℕ) (s : Sections) (k m : ℕ) (rows₀ : List ℕ) (level : ℕ) (done : FlatExtent) where
  -- The extent is `total` once the statements before number i are counted: the others added to it make up all of the model's added to `done`.
  pub record Counting (rows : List ℕ) (total : FlatExtent) (i : ℕ) : Type 0 where
    pub long : length rows ≡ length rows₀
    pub kept : take (256 * level) rows ≡ take (256 * level) rows₀
    pub fit : RowsIn f s rows
    pub counted : Counted total
    pub others : (r : FlatExtent) → Extended total (rest (file_in f s) (levels_of (contents_in f s).nodes rows₀ level) (k - 1) m i) r → Extended done (flat_at f s rows₀ level k m) r

  pub counting_start : (k ≡ 0 → ⊥) → RowsIn f s rows₀ → Counted done → Counting rows₀ done 0
  counting_start ne fit h =
      record {
        long = refl;
        kept = refl;
        fit = fit;
        counted = h;
        others = λ r. extended_same done r _ _ (sym (rest_all (file_in f s) (levels_of (contents_in f s).nodes rows₀ level) k m ne));
      }

  module _ (o : Open f s) (l : m < s.counts.models) (rows : List ℕ) (total : FlatExtent) (i : ℕ) (h : Counting rows total i) where
    pub counting_step : (rows' : List ℕ) (q : ℕ) (total' : FlatExtent) → i < stmt_count (get_or (contents_in f s).models m []) → q ≡ first_stmt (get_or (contents_in f s).models m []) + i
        → Extended total (brought_at f s rows level (λ j. flatten (file_in f s) (k - 1) j) q) total'
        × RowsKept f s level rows rows'
        → Counting rows' total' (i + 1)
    counting_step rows' q total' b eq (g, w) =
        let e = rest_next f s o rows₀ rows level (k - 1) m i q l h.kept b eq in
        record {
          long = w.0 ∙ h.long;
          kept = w.1 ∙ h.kept;
          fit = w.2;
          counted = extended_counted total total' _ g;
          others = λ r x. h.others r (extended_same total r _ _ (sym e) (extended_then total total' r _ _ g x));
        }

    pub counting_end : stmt_count (get_or (contents_in f s).models m []) ≤ i → Extended done (flat_at f s rows₀ level k m) total
    counting_end b =
        let c : length (model_at (file_in f s) m).stmts ≤ i = rw (model_is f s o m l).stmts_long b in
        h.others total (extended_none total _ h.counted (rest_end (file_in f s) (levels_of (contents_in f s).nodes rows₀ level) (k - 1) m i c))
