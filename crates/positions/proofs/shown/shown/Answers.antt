use Rattle.positions.proofs.Missing.{shown_missing, shown_there}
use Rattle.positions.proofs.shown.shown.Goals as goal

pub returns-then-from-to : goal.returns-then-from-to
returns-then-from-to c = let a = c.args in shown_missing a.from a.to a.place c.if-from-to.true

pub returns : goal.returns
returns c = let a = c.args in shown_there a.from a.to a.place c.if-from-to.false
