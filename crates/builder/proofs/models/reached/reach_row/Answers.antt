use Prim.Native.Nat.{◌+◌}
use native.Mathlib.Omega.{arith}
use Rattle.ast.specs.Opens.{file_in}
use Rattle.builder.proofs.laws.Runs.{stmts_below}
use Rattle.builder.proofs.laws.Rounds.{rowed_none, row_more, row_done}
use Rattle.builder.proofs.models.reached.reach_row.Goals as goal

pub loop-q-init : goal.loop-q-init
loop-q-init c = let a = c.args in
    let p = c.requires in
    (0, omega arith, rowed_none (file_in a.calls.now.file.bytes.now a.calls.now.file.sections) a.calls.now.file.sections.counts.models a.old.now a.calls.now.file.opened.laid.within.models a.a p.1 a.new.now p.2)

pub add_called-requires : goal.add_called-requires
add_called-requires c = let a = c.args in
    let p = c.requires in
    (p.0, c.loop-q.invariant.2.size, stmts_below a.calls.now.file.bytes.now a.calls.now.file.sections a.calls.now.file.opened a.a p.1 c.model-first.result c.model-count.result c.loop-q.q c.model-first.ensures.0 c.model-count.ensures.0 c.loop-q-test.true, p.1)

pub loop-q-preserved : goal.loop-q-preserved
loop-q-preserved c = let a = c.args in
    let p = c.requires in
    let loop = c.loop-q in
    let inv = loop.invariant in
    (inv.0 + 1, omega (arith, inv.1), row_more a.calls.now.file.bytes.now a.calls.now.file.sections a.calls.now.file.opened a.old.now a.a p.1 c.model-first.result c.model-count.result loop.q inv.0 inv.1 c.model-first.ensures.0 c.model-count.ensures.0 loop.new _ c.loop-q-test.true c.add_called.ensures inv.2)

pub returns : goal.returns
returns c = let a = c.args in
    let p = c.requires in
    let inv = c.loop-q.invariant in
    row_done a.calls.now.file.bytes.now a.calls.now.file.sections a.calls.now.file.opened a.old.now a.a p.1 c.model-first.result c.model-count.result c.loop-q.q inv.0 inv.1 c.model-first.ensures.0 c.model-count.ensures.0 c.loop-q.new c.loop-q-test.false inv.2
