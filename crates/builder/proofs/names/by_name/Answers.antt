use native.Mathlib.Omega.{arith}
use Rattle.builder.proofs.laws.Filled.{filled_as_none, filled_as_more}
use Rattle.builder.proofs.names.by_name.Goals as goal

pub loop-n-init : goal.loop-n-init
loop-n-init g c = filled_as_none _ 256 _ _ (omega arith)

pub loop-n-preserved : goal.loop-n-preserved
loop-n-preserved g c = let a = c.args in
    let loop = c.loop-n in
    filled_as_more a.other 256 _ loop.n c.of.result loop.out (omega (arith, c.loop-n-test.true, a.file.now.opened.laid.within.names)) c.of.ensures loop.invariant

pub returns : goal.returns
returns g c = let loop = c.loop-n in
    (loop.invariant.long, λ n l. loop.invariant.entry n (omega arith))
