use Rattle.ast.specs.Kinds.{ReadAs}
use Rattle.ast.proofs.ReadKinds.{no_sign}
use Rattle.ast.proofs.nodes.is_sign.Goals as goal

pub returns-in_default-2 : goal.returns-in_default-2
unfolding ReadAs
returns-in_default-2 c = no_sign (rw c.in_default.is at c.try_from.ensures)
