use mathlib.Core.Path.{sym, ◌∙◌}
use native.Mathlib.Omega.{arith}
use mathlib.Core.List.{[]}
use lib.ListN.{get_or}
use Rattle.ast.specs.RecordsIn.{records_in}
use Rattle.keeping.proofs.Turns.{variables_turn, variables_done, variable_next}
use Rattle.keeping.proofs.variables.variables_fit.Goals as goal

pub returns-then-not-variable_fits : goal.returns-then-not-variable_fits
returns-then-not-variable_fits c = let l = c.loop-i in
    sym (l.invariant.1 ∙ variables_turn _ _ _ _ _ _ l.i l.first c.loop-i-test.true ∙ rw (sym c.variable_fits.ensures ∙ c.if-not-variable_fits.true))

pub loop-i-preserved : goal.loop-i-preserved
loop-i-preserved c = let l = c.loop-i in
    let r = sym c.variable_fits.ensures ∙ c.if-not-variable_fits.false in (
      omega (arith, variable_next _ _ _ (get_or (records_in _ _) _ []) r, c.word-first.ensures.0),
      l.invariant.1 ∙ variables_turn _ _ _ _ _ _ l.i l.first c.loop-i-test.true ∙ rw (r, c.word-first.ensures.0),
    )

pub returns : goal.returns
returns c = let l = c.loop-i in
    sym (l.invariant.1 ∙ variables_done _ _ _ _ _ _ l.i l.first c.loop-i-test.false)
