use mathlib.Core.Path.{sym, ◌∙◌}
use native.Mathlib.Omega.{arith}
use Rattle.ast.specs.NodesIn.{nodes_in}
use Rattle.keeping.proofs.Turns.{rows_turn, rows_done}
use Rattle.keeping.proofs.stmts.rows_fit.Goals as goal

pub returns-then-not-row_fits : goal.returns-then-not-row_fits
returns-then-not-row_fits c = let l = c.loop-i in
    sym (l.invariant.1 ∙ rows_turn _ (nodes_in _ _) _ _ _ _ _ l.i l.first c.loop-i-test.true ∙ rw (sym c.row_fits.ensures ∙ c.if-not-row_fits.true))

pub loop-i-preserved : goal.loop-i-preserved
loop-i-preserved c = let l = c.loop-i in
    (omega arith, l.invariant.1 ∙ rows_turn _ (nodes_in _ _) _ _ _ _ _ l.i l.first c.loop-i-test.true ∙ rw (sym c.row_fits.ensures ∙ c.if-not-row_fits.false, c.word-first.ensures.0))

pub returns : goal.returns
returns c = let l = c.loop-i in
    sym (l.invariant.1 ∙ rows_done _ (nodes_in _ _) _ _ _ _ _ l.i l.first c.loop-i-test.false)
