use mathlib.Core.Path.{◌≡◌, sym, ◌∙◌}
use mathlib.Core.List.{[]}
use native.Mathlib.Omega.{arith}
use borrow.Author.Tests.{eqb-true, eqb-false}
use lib.ListN.{get_or}
use Rattle.ast.specs.Records.{kind_of_stmt}
use Rattle.ast.specs.Rows.{at_most}
use Rattle.ast.specs.Opens.{contents_in}
use Rattle.builder.proofs.laws.OpenStmts.{is_equation, equation_sides}
use Rattle.builder.proofs.laws.Descents.{readable, rate_counted, equation_counted}
use Rattle.builder.proofs.laws.OpenRecords.{stmt_is}
use Rattle.builder.proofs.extent.counts.own_nodes.Goals as goal
use Rattle.builder.proofs.extent.counts.own_nodes.Goals.{Else-is_stmt}

pub measure_expr-requires : goal.measure_expr-requires
measure_expr-requires c = let a = c.args in
    let p = c.requires in
    rw (c.nodes-nodes.ensures.0, c.nodes-nodes.ensures.1) (readable a.file.now.bytes.now a.file.now.sections p.opened a.rows.now a.level p.readable _ _ c.stmt-right.ensures.0 (stmt_is a.file.now.bytes.now a.file.now.sections p.opened a.q p.within).right)

pub returns-then-is_stmt : goal.returns-then-is_stmt
returns-then-is_stmt c = let a = c.args in
    rate_counted a.file.now.bytes.now a.file.now.sections c.requires.opened a.rows.now a.level a.q a.most _ _ (eqb-true _ _ (sym c.is_stmt.ensures ∙ c.if-is_stmt.true)) c.stmt-right.ensures.0 (rw (c.nodes-nodes.ensures.0, c.nodes-nodes.ensures.1) at c.measure_expr.ensures)

an_equation : (c : Else-is_stmt) → kind_of_stmt (get_or (contents_in c.args.file.now.bytes.now c.args.file.now.sections).stmts c.args.q []) ≡ 1
an_equation c = let a = c.args in
    let p = c.requires in
    is_equation a.file.now.bytes.now a.file.now.sections p.opened a.q p.within (eqb-false _ _ (sym c.is_stmt.ensures ∙ c.if-is_stmt.false)) p.own

pub measure_expr-a-requires : goal.measure_expr-a-requires
measure_expr-a-requires c = let a = c.args in
    let p = c.requires in
    rw (c.nodes-nodes.ensures.0, c.nodes-nodes.ensures.1) (readable a.file.now.bytes.now a.file.now.sections p.opened a.rows.now a.level p.readable _ _ c.stmt.ensures.0 (equation_sides a.file.now.bytes.now a.file.now.sections p.opened a.q p.within (an_equation (goal.at.measure_expr-a-requires c).Else-is_stmt)).0)

pub overflow_sub-most : goal.overflow_sub-most
unfolding at_most
overflow_sub-most c = omega (arith, c.measure_expr-a.ensures)

pub measure_expr-requires-2 : goal.measure_expr-requires-2
measure_expr-requires-2 c = let a = c.args in
    let p = c.requires in
    rw (c.nodes-nodes.ensures.0, c.nodes-nodes.ensures.1) (readable a.file.now.bytes.now a.file.now.sections p.opened a.rows.now a.level p.readable _ _ c.stmt-right.ensures.0 (equation_sides a.file.now.bytes.now a.file.now.sections p.opened a.q p.within (an_equation (goal.at.measure_expr-requires-2 c).Else-is_stmt)).1)

pub overflow_add-result : goal.overflow_add-result
unfolding at_most
overflow_add-result c = omega (arith, c.measure_expr-a.ensures, c.measure_expr-2.ensures)

pub returns : goal.returns
returns c = let a = c.args in
    let p = c.requires in
    equation_counted a.file.now.bytes.now a.file.now.sections p.opened a.rows.now a.level a.q a.most _ _ _ _ (an_equation (goal.at.returns c).Else-is_stmt) c.stmt.ensures.0 c.stmt-right.ensures.0 (rw (c.nodes-nodes.ensures.0, c.nodes-nodes.ensures.1) at c.measure_expr-a.ensures) (rw (c.nodes-nodes.ensures.0, c.nodes-nodes.ensures.1) at c.measure_expr-2.ensures)
