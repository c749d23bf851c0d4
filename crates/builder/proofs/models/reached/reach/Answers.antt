use mathlib.Core.Path.{refl, sym}
use Rattle.ast.specs.Opens.{file_in}
use Rattle.builder.proofs.laws.OpenRecords.{long}
use Rattle.builder.proofs.laws.Rounds.{reaching_none, stepped_done}
use Rattle.builder.proofs.models.reached.reach.Goals as goal

pub loop-init : goal.loop-init
loop-init c = let a = c.args in
    (refl, reaching_none (file_in a.calls.now.file.bytes.now a.calls.now.file.sections) a.calls.now.file.sections.counts.models c.args.calls.now.file.opened.laid.within.models)

pub loop-preserved : goal.loop-preserved
loop-preserved c = let a = c.args in
    let e = c.reach_round-table.ensures in
    (e.size, stepped_done (file_in a.calls.now.file.bytes.now a.calls.now.file.sections) a.calls.now.file.sections.counts.models c.loop.table c.loop.counter c.reach_round-table.result (sym (long a.calls.now.file.bytes.now a.calls.now.file.sections c.args.calls.now.file.opened).file_models) c.loop.invariant.1 e)
