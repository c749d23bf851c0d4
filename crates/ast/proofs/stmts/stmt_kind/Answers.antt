use Rattle.ast.specs.Kinds.{ReadAs}
use Rattle.ast.proofs.ReadKinds.{no_stmt}
use Rattle.ast.proofs.stmts.stmt_kind.Goals as goal

pub returns-in-Err : goal.returns-in-Err
unfolding ReadAs
returns-in-Err c = no_stmt _ _ _ _ _ (rw c.word.ensures.0 at c.in-Err.ensures)
