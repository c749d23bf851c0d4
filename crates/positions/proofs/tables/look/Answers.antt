use native.Mathlib.Omega.{arith}
use Rattle.positions.proofs.Growing.{found_before, found_later, found_here}
use Rattle.positions.proofs.tables.look.Goals as goal

pub returns-then-entry-end : goal.returns-then-entry-end
returns-then-entry-end c = let a = c.args in
    found_before a.end a.piece.now a.entry.start a.entry.place c.if-entry-end.true

pub returns-then-piece-n : goal.returns-then-piece-n
returns-then-piece-n c = let a = c.args in
    found_later a.end a.piece.now a.entry.start a.entry.place (omega arith)

pub returns : goal.returns
returns c = let a = c.args in
    found_here a.end a.piece.now a.entry.start a.entry.place _ c.walk-at.result c.if-piece-n.false (omega arith) c.walk-at.ensures
