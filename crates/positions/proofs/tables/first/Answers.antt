use Rattle.positions.proofs.Growing.{first_zero, first_none}
use Rattle.positions.proofs.tables.first.Goals as goal

pub returns-then-start-eq0 : goal.returns-then-start-eq0
returns-then-start-eq0 c = first_zero _ c.if-start-eq0.true

pub returns : goal.returns
returns c = first_none _ c.if-start-eq0.false
