-- How a root model is measured, in the code's terms: the refusals 6 to 8 in their order, and the counts that stop just above their mosts.
use mathlib.Core.Path.{◌≡◌, refl, sym, ap, ◌∙◌}
use mathlib.Core.Bool.{true, false, cond, ◌||◌, or-true}
use mathlib.Core.List.{List, map}
use Prim.Native.Nat.{ℕ, ◌+◌, ◌≤◌, ◌<◌}
use native.Mathlib.Omega.{arith}
use borrow.Author.Tests.{lt-ltb, le-ltb, ltb-true, ltb-false}
use lib.Dec.{ltb, eqb}
use lib.ListN.{length}
use Rattle.functions.specs.Lists.{sum_of}
use Rattle.ast.specs.Tree.{File, flat_size}
use Rattle.ast.specs.Levels.{through_flat}
use Rattle.ast.specs.Rows.{levels_of, at_most}
use Rattle.definitions.specs.Numbers.{model_cycle, self_listed_unknown, argument_beyond, over_most}
use Rattle.definitions.specs.Flatten.{flatten, instances, cyclic, self_listed, overfull}
use Rattle.definitions.specs.Build.{Result, refusal, accepted, too_big}
use Rattle.builder.specs.Root.{Measure, forbidden_of, forbidden_as, size_of, measure_of, measured_as}
use Rattle.builder.specs.Extents.{Extended}
use Rattle.builder.specs.declared.extent.counts.FlatExtent.{FlatExtent}
use Rattle.std.specs.Prelude as std
use Rattle.std.specs.Prelude.{Ok, Err}
use Rattle.builder.specs.Refusals.{number_of}
use Rattle.builder.specs.declared.refusal.Refusal.{Refusal}
use Rattle.builder.specs.declared.refusal.Refusal.TheVariants.{NoRoot, ModelCycle, SelfListedUnknown, ArgumentBeyond, OverMost, ShortLeftSide}
use Rattle.builder.specs.declared.extent.measure.Extent.{Extent}
use Rattle.definitions.proofs.ListLaws.{or_either}
use Rattle.definitions.proofs.Counts.{or_false}
use Rattle.builder.proofs.laws.Flattening.{map_none}
use Rattle.builder.proofs.laws.Extents.{extended_same}

-- ---- refusals 6 to 8, in their order

module _ (f : File) (m : ℕ) where
  pub forbids_cycle : cyclic f m ≡ true → model_cycle ≡ forbidden_of f m
  unfolding forbidden_of
  forbids_cycle a = rw a refl

  pub forbids_self_listed : cyclic f m ≡ false → self_listed f m ≡ true → self_listed_unknown ≡ forbidden_of f m
  unfolding forbidden_of
  forbids_self_listed a b = rw (a, b) refl

  pub forbids_beyond : cyclic f m ≡ false → self_listed f m ≡ false → overfull f m ≡ true → argument_beyond ≡ forbidden_of f m
  unfolding forbidden_of
  forbids_beyond a b d = rw (a, b, d) refl

  pub forbids_none : cyclic f m ≡ false → self_listed f m ≡ false → overfull f m ≡ false → 0 ≡ forbidden_of f m
  unfolding forbidden_of
  forbids_none a b d = rw (a, b, d) refl

  -- ---- one of them, or the sizes

  -- no refusal has the number 0
  numbered : (r : Refusal) → eqb (number_of r) 0 ≡ false
  numbered NoRoot = refl
  numbered ModelCycle = refl
  numbered SelfListedUnknown = refl
  numbered ArgumentBeyond = refl
  numbered OverMost = refl
  numbered ShortLeftSide = refl

  pub measured_forbidden : (r : Refusal) → forbidden_as (Err r) ≡ forbidden_of f m → measured_as (Err r) ≡ measure_of f m
  unfolding measure_of measured_as forbidden_as
  measured_forbidden r e = rw (← e, numbered r) refl

  pub measured_size : (x : _) (r : std.Result Extent Refusal) → forbidden_as (Ok x) ≡ forbidden_of f m → measured_as r ≡ size_of f m → measured_as r ≡ measure_of f m
  unfolding measure_of forbidden_as
  measured_size x r e g = rw (← e) g

-- ---- counts that stop just above their mosts

-- beyond the most
at_most_over : (most i x : ℕ) → i ≡ at_most (most + 1) x → most < i → most < x
unfolding at_most
at_most_over most i x e h = omega arith

-- within it the count is whole
at_most_whole : (most i x : ℕ) → i ≡ at_most (most + 1) x → i ≤ most → i ≡ x
unfolding at_most
at_most_whole most i x e h = omega arith

-- the extent of no statements
abbrev nothing : FlatExtent
nothing = record { stmts = 0; nodes = 0 }

-- by three numbers: instances, statements and nodes
abbrev sizing : ℕ → ℕ → ℕ → Result Measure
sizing i q n = cond (ltb 1024 i || ltb 1024 n || ltb 256 q) (refusal over_most) (accepted (record { instances = i; stmts = q; nodes = n }))

over_first : (i q n : ℕ) → 1024 < i → measured_as (Err OverMost) ≡ sizing i q n
unfolding measured_as
over_first i q n h = rw (lt-ltb 1024 i h) refl

over_second : (i q n : ℕ) → 256 < q → measured_as (Err OverMost) ≡ sizing i q n
unfolding measured_as
over_second i q n h = rw (lt-ltb 256 q h, or-true (ltb 1024 i || ltb 1024 n)) refl

over_third : (i q n : ℕ) → 1024 < n → measured_as (Err OverMost) ≡ sizing i q n
unfolding measured_as
over_third i q n h = rw (lt-ltb 1024 n h, or-true (ltb 1024 i)) refl

over_none : (i q n : ℕ) → i ≤ 1024 → q ≤ 256 → n ≤ 1024 → measured_as (Ok (record { instances = i; stmts = q; nodes = n })) ≡ sizing i q n
unfolding measured_as
over_none i q n hi hq hn = rw (le-ltb 1024 i hi, le-ltb 256 q hq, le-ltb 1024 n hn) refl

module _ (f : File) (m k : ℕ) (ek : length f.models ≡ k) where
  -- at the depth that the code gives
  size_at_lem : sizing (instances f k m) (length (flatten f k m)) (sum_of flat_size (flatten f k m)) ≡ size_of f m
  unfolding size_of too_big
  size_at_lem = ap (λ (d : ℕ). sizing (instances f d m) (length (flatten f d m)) (sum_of flat_size (flatten f d m))) (sym ek)

  module _ (i : ℕ) (ei : i ≡ at_most 1025 (instances f k m)) where
    pub over_instances : 1024 < i → measured_as (Err OverMost) ≡ size_of f m
    over_instances h = over_first (instances f k m) (length (flatten f k m)) (sum_of flat_size (flatten f k m)) (at_most_over 1024 i _ ei h) ∙ size_at_lem

    -- the statements are read at level 0, where nothing is replaced
    module _ (ns : List (List ℕ)) (rows : List ℕ) (e : FlatExtent) (x : Extended nothing (map (through_flat (levels_of ns rows 0)) (flatten f k m)) e) where
      plain : (e.stmts ≡ at_most 257 (length (flatten f k m))) × (e.nodes ≡ at_most 1025 (sum_of flat_size (flatten f k m)))
      unfolding levels_of
      plain =
          let y = extended_same nothing e _ _ (map_none (flatten f k m)) x in
          (y.stmts ∙ ap (at_most 257) (omega arith), y.nodes ∙ ap (at_most 1025) (omega arith))

      pub over_flat : ltb 256 e.stmts || ltb 1024 e.nodes ≡ true → measured_as (Err OverMost) ≡ size_of f m
      over_flat h =
          or_either (ltb 256 e.stmts) (ltb 1024 e.nodes) h
          (λ g. over_second (instances f k m) (length (flatten f k m)) (sum_of flat_size (flatten f k m)) (at_most_over 256 e.stmts _ plain.0 (ltb-true 256 e.stmts g)))
          (λ g. over_third (instances f k m) (length (flatten f k m)) (sum_of flat_size (flatten f k m)) (at_most_over 1024 e.nodes _ plain.1 (ltb-true 1024 e.nodes g)))
          ∙ size_at_lem

      pub sized : i ≤ 1024 → ltb 256 e.stmts || ltb 1024 e.nodes ≡ false → measured_as (Ok (record { instances = i; stmts = e.stmts; nodes = e.nodes })) ≡ size_of f m
      sized hi h =
          let (gq, gn) = or_false (ltb 256 e.stmts) (ltb 1024 e.nodes) h in
          let hq : e.stmts ≤ 256 = ltb-false 256 e.stmts gq in
          let hn : e.nodes ≤ 1024 = ltb-false 1024 e.nodes gn in
          let ai : i ≡ instances f k m = at_most_whole 1024 i _ ei hi in
          let aq : e.stmts ≡ length (flatten f k m) = at_most_whole 256 e.stmts _ plain.0 hq in
          let an : e.nodes ≡ sum_of flat_size (flatten f k m) = at_most_whole 1024 e.nodes _ plain.1 hn in
          over_none i e.stmts e.nodes hi hq hn ∙ ap (λ (y : ℕ). sizing y e.stmts e.nodes) ai ∙ ap (λ (y : ℕ). sizing (instances f k m) y e.nodes) aq ∙ ap (λ (y : ℕ). sizing (instances f k m) (length (flatten f k m)) y) an ∙ size_at_lem
