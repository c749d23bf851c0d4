use Prim.Native.Nat.{◌+◌}
use native.Mathlib.Omega.{arith}
use Rattle.ast.specs.Opens.{file_in}
use Rattle.ast.specs.Records.{unknown_of}
use Rattle.definitions.specs.Flatten.{model_at}
use Rattle.builder.specs.VariableTables.{unknowns_in, roster_in}
use Rattle.builder.proofs.laws.Open.{names_long}
use Rattle.builder.proofs.laws.OpenRecords.{listed_below}
use Rattle.builder.proofs.laws.PutWords.{kept_few}
use Rattle.builder.proofs.laws.Runs.{unknown_of_run, run_all}
use Rattle.builder.proofs.laws.ScopeTables.{counted_begin, counted_same, counted_more, counted_next, counted_vars, counted_few}
use Rattle.builder.proofs.models.scope.model_vars.Goals.{then-out-name-ne0, else-out-name-ne0}
use Rattle.builder.proofs.models.scope.model_vars.Goals as goal

pub loop-u-init : goal.loop-u-init
loop-u-init c = let a = c.args in
    (0, omega arith, counted_begin _ _ (model_at (file_in a.names.now.file.bytes.now a.names.now.file.sections) a.m).unknowns _ c.declared.ensures)

pub unknown-name-requires : goal.unknown-name-requires
unknown-name-requires c = let p = c.requires.0 in
    let u = unknown_of_run _ _ c.args.names.now.file.opened _ p _ _ _ _ c.loop-u.invariant.1 c.model-first.ensures.0 c.model-count.ensures.0 c.loop-u-test.true in
    (u.below, omega arith)

pub bounds-out-name : goal.bounds-out-name
unfolding unknown_of
bounds-out-name c = let p = c.requires.0 in
    let u = unknown_of_run _ _ c.args.names.now.file.opened _ p _ _ _ _ c.loop-u.invariant.1 c.model-first.ensures.0 c.model-count.ensures.0 c.loop-u-test.true in
    omega (arith, c.args.names.now.file.opened.laid.within.names)

pub kept_count-requires : goal.kept_count-requires
kept_count-requires c = let p = c.requires.0 in
    let u = unknown_of_run _ _ c.args.names.now.file.opened _ p _ _ _ _ c.loop-u.invariant.1 c.model-first.ensures.0 c.model-count.ensures.0 c.loop-u-test.true in
    (u.below, c.loop-u.invariant.2.long)

pub overflow_add-out : goal.overflow_add-out
unfolding roster_in unknowns_in unknown_of
overflow_add-out c = let a = c.args in
    let p = c.requires.0 in
    let u = unknown_of_run _ _ c.args.names.now.file.opened _ p _ _ _ _ c.loop-u.invariant.1 c.model-first.ensures.0 c.model-count.ensures.0 c.loop-u-test.true in
    omega (arith, counted_few _ c.loop-u.invariant.0 _ _ _ c.loop-u.invariant.2 (kept_few a.names.now.file.bytes.now a.names.now.file.sections c.args.names.now.file.opened a.m) c.unknown-name.result (omega arith), c.kept_count.ensures.1)

pub loop-u-preserved : goal.loop-u-preserved
unfolding unknown_of
loop-u-preserved c = let a = c.args in
    let p = c.requires.0 in
    let loop = c.loop-u in
    let inv = loop.invariant in
    let u = unknown_of_run _ _ c.args.names.now.file.opened _ p _ _ _ _ inv.1 c.model-first.ensures.0 c.model-count.ensures.0 c.loop-u-test.true in
    let n = c.unknown-name in (
      inv.0 + 1,
      omega (arith, inv.1),
      elim c.if-out-name-ne0.branch [
        | then-out-name-ne0 w ↦ rw w.out-is (counted_next _ inv.0 _ _ _ _ u.there u.here (counted_more inv.2 _ n.result n.ensures.0 (omega arith) _ w.if-out-name-ne0.true (omega arith) w.kept_count.ensures.0 (listed_below a.names.now.file.bytes.now a.names.now.file.sections c.args.names.now.file.opened _ u.below)))
        | else-out-name-ne0 w ↦ rw w.out-is (counted_next _ inv.0 _ _ _ _ u.there u.here (counted_same inv.2 _ n.result n.ensures.0 (omega arith) w.if-out-name-ne0.false))
      ],
    )

pub returns : goal.returns
returns c = let a = c.args in
    let p = c.requires.0 in
    (counted_vars a.names.now.file.bytes.now a.names.now.file.sections a.m _ c.loop-u.invariant.0 _ (names_long a.names.now.file.bytes.now a.names.now.file.sections) (run_all _ _ c.args.names.now.file.opened _ p _ _ _ _ c.loop-u.invariant.1 c.model-first.ensures.0 c.model-count.ensures.0 c.loop-u-test.false) c.loop-u.invariant.2, c.loop-u.invariant.2.long)
