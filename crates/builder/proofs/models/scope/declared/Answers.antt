use Prim.Native.Nat.{◌+◌}
use mathlib.Core.List.{[], ◌∷◌}
use native.Mathlib.Omega.{arith}
use borrow.Author.Tests.{tests}
use borrow.Author.Rules.{rules}
use Rattle.ast.specs.Opens.{file_in}
use Rattle.ast.specs.Records.{unknown_of}
use Rattle.definitions.specs.Names.{time_name}
use Rattle.definitions.specs.Flatten.{model_at}
use Rattle.builder.proofs.laws.Open.{names_long}
use Rattle.builder.proofs.laws.Runs.{unknown_of_run, run_all}
use Rattle.builder.proofs.laws.ScopeTables.{marks_begin, marks_kept, marks_next, marks_all}
use Rattle.builder.proofs.models.scope.declared.Goals.{then-not-is_reserved, else-not-is_reserved}
use Rattle.builder.proofs.models.scope.declared.Goals as goal

pub loop-u-init : goal.loop-u-init
loop-u-init c = let a = c.args in
    (0, omega arith, marks_begin (file_in a.names.now.file.bytes.now a.names.now.file.sections).names (model_at (file_in a.names.now.file.bytes.now a.names.now.file.sections) a.m).unknowns _ _ c.time_declared.ensures)

pub unknown-name-requires : goal.unknown-name-requires
unknown-name-requires c = let p = c.requires.0 in
    let u = unknown_of_run _ _ c.args.names.now.file.opened _ p _ _ _ _ c.loop-u.invariant.1 c.model-first.ensures.0 c.model-count.ensures.0 c.loop-u-test.true in
    (u.below, omega arith)

pub bounds-names-name : goal.bounds-names-name
unfolding unknown_of
bounds-names-name c = let p = c.requires.0 in
    let u = unknown_of_run _ _ c.args.names.now.file.opened _ p _ _ _ _ c.loop-u.invariant.1 c.model-first.ensures.0 c.model-count.ensures.0 c.loop-u-test.true in
    omega arith

pub bounds-out-name : goal.bounds-out-name
unfolding unknown_of
bounds-out-name c = let p = c.requires.0 in
    let u = unknown_of_run _ _ c.args.names.now.file.opened _ p _ _ _ _ c.loop-u.invariant.1 c.model-first.ensures.0 c.model-count.ensures.0 c.loop-u-test.true in
    omega arith

pub loop-u-preserved : goal.loop-u-preserved
unfolding unknown_of
loop-u-preserved c = let a = c.args in
    let p = c.requires.0 in
    let loop = c.loop-u in
    let inv = loop.invariant in
    let u = unknown_of_run _ _ c.args.names.now.file.opened _ p _ _ _ _ inv.1 c.model-first.ensures.0 c.model-count.ensures.0 c.loop-u-test.true in
    let n = c.unknown-name in
    let long = names_long a.names.now.file.bytes.now a.names.now.file.sections in (
      inv.0 + 1,
      omega (arith, inv.1),
      elim c.if-not-is_reserved.branch [
        | then-not-is_reserved w ↦ rw w.out-is (marks_next (file_in a.names.now.file.bytes.now a.names.now.file.sections).names a.names.now.classes.now c.args.names.now.classed _ (time_name (file_in a.names.now.file.bytes.now a.names.now.file.sections).names ∷ []) _ inv.0 u.there u.here _ n.result c.is_reserved.result loop.out long n.ensures.0 (omega arith) c.is_reserved.ensures inv.2 (omega arith) (search (rules, tests)))
        | else-not-is_reserved w ↦ rw w.out-is (marks_kept (file_in a.names.now.file.bytes.now a.names.now.file.sections).names a.names.now.classes.now c.args.names.now.classed _ (time_name (file_in a.names.now.file.bytes.now a.names.now.file.sections).names ∷ []) _ inv.0 u.there u.here _ n.result c.is_reserved.result loop.out long n.ensures.0 (omega arith) c.is_reserved.ensures inv.2 (search (rules, tests)))
      ],
    )

pub returns : goal.returns
returns c = let p = c.requires.0 in
    marks_all _ _ _ c.loop-u.invariant.0 _ (run_all _ _ c.args.names.now.file.opened _ p _ _ _ _ c.loop-u.invariant.1 c.model-first.ensures.0 c.model-count.ensures.0 c.loop-u-test.false) c.loop-u.invariant.2
