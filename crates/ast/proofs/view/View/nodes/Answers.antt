use native.Mathlib.Omega.{arith}
use Rattle.ast.proofs.Opened.{ranges}
use Rattle.ast.proofs.view.View.nodes.Goals as goal

pub invariant_of-result : goal.invariant_of-result
invariant_of-result c = let v = c.args.self.now in
    record { lie = omega (arith, (ranges v.bytes.now v.sections v.opened).nodes) }
