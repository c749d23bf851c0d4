use native.Mathlib.Omega.{arith}
use Prim.Native.Nat.{◌*◌}
use mathlib.Core.Path.{refl}
use Rattle.ast.proofs.Fronts.{lent_put}
use Rattle.ast.proofs.subst.copy_behind.Goals as goal

pub returns : goal.returns
returns c = let a = c.args in
    (refl, lent_put a.out.now _ _ (32 * a.done) (omega arith) c.copy_node.ensures.0, c.copy_node.ensures.1)
