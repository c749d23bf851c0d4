use native.Mathlib.Omega.{arith}
use Rattle.ast.proofs.Copies.{copied_put}
use Rattle.ast.proofs.subst.copy_node.Goals as goal

pub returns : goal.returns
returns c = let a = c.args in
    let low = c.field-low.ensures in (
      copied_put _ a.out.now _ _ _ _ _ _ _ _ _
          c.field-kind.ensures c.field-name.ensures
          c.field-op.ensures low c.field-high.ensures c.put_record.ensures,
      omega (arith, low),
    )
