use Rattle.ast.proofs.Opened.{ranges}
use Rattle.ast.proofs.Viewed.{stmt_says}
use Rattle.ast.proofs.view.View.stmt.Goals as goal

pub invariant_of-stmts : goal.invariant_of-stmts
invariant_of-stmts c = let v = c.args.self.now in
    record { lie = (ranges v.bytes.now v.sections v.opened).stmts }

pub returns : goal.returns
returns c = let v = c.args.self.now in
    stmt_says v.bytes.now v.sections v.opened c.args.i c.args.k c.word.result c.word.ensures
