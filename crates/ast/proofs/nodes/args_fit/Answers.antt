use mathlib.Core.Path.{refl, sym, ◌∙◌}
use native.Mathlib.Omega.{arith}
use borrow.Author.Tests.{le-leb, lt-leb}
use Rattle.ast.proofs.Fitting.{args_turn, args_none_left, args_end}
use Rattle.ast.proofs.nodes.args_fit.Goals as goal

pub returns-then-end-eq0 : goal.returns-then-end-eq0
returns-then-end-eq0 c = sym (c.loop.invariant.1 ∙ args_none_left _ _ _ _ _ 0 0 c.loop-test.true c.if-end-eq0.true)

pub returns-then-not-is : goal.returns-then-not-is
returns-then-not-is c = sym (c.loop.invariant.1 ∙ args_turn _ _ _ _ _ _ _ c.loop-test.true (omega arith) refl refl ∙ rw (sym c.is.ensures ∙ c.if-not-is.true))

pub returns-then-total-size : goal.returns-then-total-size
returns-then-total-size c = sym (c.loop.invariant.1 ∙ args_turn _ _ _ _ _ _ _ c.loop-test.true (omega arith) refl c.word-size.ensures.0 ∙ rw (sym c.is.ensures ∙ c.if-not-is.false, lt-leb _ _ c.if-total-size.true))

pub returns-then-end-size : goal.returns-then-end-size
returns-then-end-size c = sym (c.loop.invariant.1 ∙ args_turn _ _ _ _ _ _ _ c.loop-test.true (omega arith) refl c.word-size.ensures.0 ∙ rw (sym c.is.ensures ∙ c.if-not-is.false, le-leb _ _ c.if-total-size.false, lt-leb _ _ c.if-end-size.true))

pub loop-preserved : goal.loop-preserved
loop-preserved c = (omega arith, c.loop.invariant.1 ∙ args_turn _ _ _ _ _ _ _ c.loop-test.true (omega arith) refl c.word-size.ensures.0 ∙ rw (sym c.is.ensures ∙ c.if-not-is.false, le-leb _ _ c.if-total-size.false, le-leb _ _ c.if-end-size.false))

pub returns : goal.returns
returns c = sym (c.loop.invariant.1 ∙ args_end _ _ _ _ (omega arith))
