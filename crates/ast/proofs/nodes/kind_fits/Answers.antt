use Rattle.ast.specs.Kinds.{ReadAs}
use Rattle.ast.proofs.ReadKinds.{no_kind}
use Rattle.ast.proofs.nodes.kind_fits.Goals as goal

pub returns-in-Err : goal.returns-in-Err
unfolding ReadAs
returns-in-Err c = no_kind _ _ _ _ c.in-Err.ensures
