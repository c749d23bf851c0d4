use mathlib.Core.Path.{sym, ◌∙◌}
use native.Mathlib.Omega.{arith}
use borrow.Author.Tests.{eqb-true, eqb-false}
use Rattle.area.specs.Sections.{deps_at}
use Rattle.builder.proofs.laws.HeldSteps.{hold_beyond, hold_other, hold_held, hold_initial, initial_few}
use Rattle.builder.proofs.allocation.held.hold_stmt.Goals as goal

pub stmt-v-requires : goal.stmt-v-requires
unfolding deps_at
stmt-v-requires c = let p = c.requires in
    (p.0.small, omega (arith, p.0.long), p.1, omega arith)

pub is_fated-requires : goal.is_fated-requires
unfolding deps_at
is_fated-requires c = let p = c.requires in
    (p.0.small, omega (arith, p.0.long), p.1)

pub is_fated-requires-2 : goal.is_fated-requires-2
unfolding deps_at
is_fated-requires-2 c = let p = c.requires in
    (p.0.small, omega (arith, p.0.long), p.1)

pub returns-then-z-v : goal.returns-then-z-v
returns-then-z-v c = let a = c.args in
    let p = c.requires in
    hold_beyond a.z a.area.now a.i p.1 p.0 (omega (arith, c.stmt-v.ensures.0, c.if-z-v.true))

pub returns-then-is_fated : goal.returns-then-is_fated
returns-then-is_fated c = let a = c.args in
    let p = c.requires in
    hold_held a.z a.area.now a.i p.1 p.0 c.stmt-v.result c.stmt-v.ensures.0 (omega (arith, c.if-z-v.false)) _ (eqb-true _ _ (sym c.is_fated.ensures ∙ c.if-is_fated.true)) c.put_var.ensures

pub overflow_add-more : goal.overflow_add-more
overflow_add-more c = let a = c.args in
    let p = c.requires in
    omega (arith, c.var-more.ensures, p.0.small.stmts, initial_few a.z a.area.now a.i p.1 p.0 c.stmt-v.result (omega (arith, c.if-z-v.false)))

pub returns-then-is_fated-2 : goal.returns-then-is_fated-2
returns-then-is_fated-2 c = let a = c.args in
    let p = c.requires in
    hold_initial a.z a.area.now a.i p.1 p.0 c.stmt-v.result c.stmt-v.ensures.0 (omega (arith, c.if-z-v.false)) _ _ (eqb-true _ _ (sym c.is_fated-2.ensures ∙ c.if-is_fated-2.true))
    (omega (arith, c.var-more.ensures)) c.put_var-then-is_fated-2.ensures

pub returns-else-is_fated-2 : goal.returns-else-is_fated-2
returns-else-is_fated-2 c = let a = c.args in
    let p = c.requires in
    hold_other a.z a.area.now a.i p.1 p.0 (eqb-false _ _ (sym c.is_fated.ensures ∙ c.if-is_fated.false)) (eqb-false _ _ (sym c.is_fated-2.ensures ∙ c.if-is_fated-2.false))
