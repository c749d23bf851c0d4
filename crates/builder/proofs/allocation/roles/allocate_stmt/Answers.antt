use mathlib.Core.Path.{sym, ◌∙◌}
use Prim.Native.Nat.{◌<◌}
use native.Mathlib.Omega.{arith}
use borrow.Author.Tests.{eqb-true, eqb-false}
use Rattle.ast.specs.Nodes.{name_at}
use Rattle.area.specs.Views.{nodes_seen}
use Rattle.builder.specs.Allocating.{Narrow}
use Rattle.builder.proofs.laws.LeftSides.{entry_below, start_fits}
use Rattle.builder.proofs.laws.Flats.{rate_name, role_equation, rate_unknown, rate_goes, rate_stays}
use Rattle.builder.proofs.allocation.roles.allocate_stmt.Goals as goal

pub start_of-start-requires : goal.start_of-start-requires
start_of-start-requires c =
    let p = c.requires in
    (p.0, p.1, rw c.stmt.ensures.0 (p.0.1.left _ p.2 (eqb-true _ _ (sym c.is_stmt.ensures ∙ c.if-is_stmt.true))).0)

pub start_role-requires : goal.start_role-requires
start_role-requires c =
    let p = c.requires in
    let F = p.0.1 in
    let left_there = (F.left _ p.2 (eqb-true _ _ (sym c.is_stmt.ensures ∙ c.if-is_stmt.true))).0 in
    (omega (arith, F.long), F.small, rw (c.start_of-start.ensures, c.stmt.ensures.0) (start_fits _ _ _ F.nodes F.few _ _ p.1 _ left_there))

pub returns-then-is_stmt : goal.returns-then-is_stmt
unfolding Narrow
returns-then-is_stmt c =
    (c.start_role.ensures.0 (name_at (nodes_seen c.args.area.now) c.stmt.result) ∙ rw (c.start_of-start.ensures, c.stmt.ensures.0) (sym (role_equation _ _ _ c.requires.0.1 _ _ _ c.requires.2 (eqb-true _ _ (sym c.is_stmt.ensures ∙ c.if-is_stmt.true)) _ _)), c.start_role.ensures.1)

pub bounds-numbers-stmt : goal.bounds-numbers-stmt
bounds-numbers-stmt c =
    let p = c.requires in
    omega (arith, c.stmt-2.ensures.0, p.1.names, rate_name _ _ _ p.0.1 _ p.2 (eqb-false _ _ (sym c.is_stmt.ensures ∙ c.if-is_stmt.false)))

pub takes_rate-requires : goal.takes_rate-requires
takes_rate-requires c =
    let p = c.requires in
    let name_small : c.stmt-2.result < 256 = omega (arith, c.stmt-2.ensures.0, rate_name _ _ _ p.0.1 _ p.2 (eqb-false _ _ (sym c.is_stmt.ensures ∙ c.if-is_stmt.false))) in
    (p.0.1.small, p.1.vars, rw c.from.ensures (entry_below p.1 _ _ name_small c.in-Some.ensures))

pub returns-in-Some : goal.returns-in-Some
unfolding Narrow
returns-in-Some c = let p = c.requires in
    (rw c.from-in-Some.ensures (rate_goes _ _ _ p.0.1 _ _ _ p.2 (eqb-false _ _ (sym c.is_stmt.ensures ∙ c.if-is_stmt.false)) _ _ _ c.stmt-2.ensures.0 _ c.in-Some.ensures (sym (rw c.from.ensures at c.if-takes_rate.ensures))), omega arith)

pub returns-in_default : goal.returns-in_default
unfolding Narrow
returns-in_default c = let p = c.requires in
    (rate_stays _ _ _ p.0.1 _ _ _ p.2 (eqb-false _ _ (sym c.is_stmt.ensures ∙ c.if-is_stmt.false)) _ _ _ c.stmt-2.ensures.0 _ c.in-Some.ensures (sym (rw c.from.ensures at c.if-takes_rate.ensures)), tt)

pub returns-in_default-2 : goal.returns-in_default-2
unfolding Narrow
returns-in_default-2 c = let p = c.requires in
    (rate_unknown _ _ _ p.0.1 _ _ _ p.2 (eqb-false _ _ (sym c.is_stmt.ensures ∙ c.if-is_stmt.false)) _ _ _ c.stmt-2.ensures.0 c.in_default.ensures, tt)
