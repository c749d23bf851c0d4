-- `builder::builder::own_errors` meets its contract: the right side's errors, then an equation's left side's.
use mathlib.Core.Path.{refl, sym, ◌∙◌}
use mathlib.Core.List.{[]}
use native.Mathlib.Omega.{arith}
use borrow.Author.Tests.{eqb-true, eqb-false}
use Rattle.builder.specs.Seen.{scope_seen}
use Rattle.area.proofs.Listings.{listed_then, room_first, listed_room}
use Rattle.builder.proofs.laws.ModelErrors.{right_in, left_in_lem, an_equation, rate_errors_lem, equation_errors, right_first_lem}
use Rattle.builder.proofs.errors.builder.own_errors.Goals as goal

pub invariant_of-at : goal.invariant_of-at
invariant_of-at c = let p = c.requires in
    record { scoped = p.0 }

pub check_expr-requires : goal.check_expr-requires
check_expr-requires c = let p = c.requires in
    let a = c.args in
    let stmt = c.stmt-right in
    let e = (right_first_lem p.0.opened a.q p.1 _ refl (λ j. []) (scope_seen a.tables.now.names.file a.m) p.2 stmt.result stmt.ensures.0).1 in
    rw (c.nodes.ensures.0, c.nodes.ensures.1) (right_in p.0.opened a.q p.1 stmt.result stmt.ensures.0, room_first e _ p.3)

pub returns-then-is_stmt : goal.returns-then-is_stmt
returns-then-is_stmt c = let p = c.requires in
    let a = c.args in
    let stmt = c.stmt-right in
    rw (rate_errors_lem p.0.opened a.q p.1 _ refl (λ j. []) (scope_seen a.tables.now.names.file a.m) (eqb-true _ _ (sym c.is_stmt.ensures ∙ c.if-is_stmt.true)) stmt.result stmt.ensures.0) (rw (c.nodes.ensures.0, c.nodes.ensures.1) at c.check_expr.ensures)

pub stmt-left-requires : goal.stmt-left-requires
stmt-left-requires c = let p = c.requires in
    (p.1, omega arith)

pub check_expr-requires-2 : goal.check_expr-requires-2
check_expr-requires-2 c = let p = c.requires in
    let a = c.args in
    let stmt = c.stmt-right in
    let stmt3 = c.stmt-left in
    let k = an_equation p.0.opened a.q p.1 _ refl p.2 (eqb-false _ _ (sym c.is_stmt.ensures ∙ c.if-is_stmt.false)) in
    let e = equation_errors p.0.opened a.q p.1 _ refl (λ j. []) (scope_seen a.tables.now.names.file a.m) k stmt.result stmt3.result stmt.ensures.0 stmt3.ensures.0 in
    rw (c.nodes.ensures.0, c.nodes.ensures.1) (left_in_lem p.0.opened a.q p.1 _ refl k stmt3.result stmt3.ensures.0, listed_room e p.3 (rw (c.nodes.ensures.0, c.nodes.ensures.1) at c.check_expr.ensures))

pub returns : goal.returns
returns c = let p = c.requires in
    let a = c.args in
    let stmt = c.stmt-right in
    let if1 = c.if-is_stmt in
    let stmt3 = c.stmt-left in
    let k = an_equation p.0.opened a.q p.1 _ refl p.2 (eqb-false _ _ (sym c.is_stmt.ensures ∙ if1.false)) in
    let e = equation_errors p.0.opened a.q p.1 _ refl (λ j. []) (scope_seen a.tables.now.names.file a.m) k stmt.result stmt3.result stmt.ensures.0 stmt3.ensures.0 in
    listed_then e (rw (c.nodes.ensures.0, c.nodes.ensures.1) at c.check_expr.ensures) (rw (c.nodes.ensures.0, c.nodes.ensures.1) at c.check_expr-2.ensures)
