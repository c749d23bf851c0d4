use Rattle.ast.specs.Kinds.{ReadAs}
use Rattle.ast.proofs.ReadKinds.{no_domain}
use Rattle.ast.proofs.unknowns.domain_fits.Goals as goal

pub returns-in-Err : goal.returns-in-Err
unfolding ReadAs
returns-in-Err c = no_domain _ _ (rw c.word.ensures.0 at c.in-Err.ensures)
