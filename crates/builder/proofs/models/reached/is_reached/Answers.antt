use borrow.Author.Tests.{ne_eqb}
use Rattle.builder.proofs.laws.Refusals.{reached_flag}
use Rattle.builder.proofs.models.reached.is_reached.Goals as goal

pub returns-else-m-root : goal.returns-else-m-root
returns-else-m-root c = let a = c.args in
    let p = c.requires in
    rw (ne_eqb a.m a.root c.if-m-root.false) (reached_flag a.file.now.bytes.now a.file.now.sections c.args.file.now.opened a.table.now p.0 a.root a.m p.1 p.2)
