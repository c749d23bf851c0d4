use mathlib.Core.Path.{◌∙◌}
use Rattle.ast.proofs.ReadKinds.{op_read}
use Rattle.ast.proofs.nodes.is_op.Goals as goal

pub returns : goal.returns
returns c = c.is_ok.ensures.value ∙ op_read _ _ c.try_from.ensures
