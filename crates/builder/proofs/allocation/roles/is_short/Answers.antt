use mathlib.Core.Path.{◌≡◌, sym, ◌∙◌}
use borrow.Author.Tests.{eqb-true, eqb-false}
use Rattle.ast.specs.Words.{word_of}
use Rattle.area.specs.Views.{stmt_seen}
use Rattle.builder.specs.Allocating.{is_short}
use Rattle.builder.proofs.laws.Flats.{short_equation, short_rate}
use Rattle.builder.proofs.allocation.roles.is_short.Goals as goal

pub returns-then-not-is_stmt : goal.returns-then-not-is_stmt
returns-then-not-is_stmt c = let p = c.requires in
    sym (short_rate _ _ _ p.0.1 _ _ _ p.2 (eqb-false _ _ (sym c.is_stmt.ensures ∙ c.if-not-is_stmt.true)))

pub start_of-requires : goal.start_of-requires
start_of-requires c =
    let is_equation : word_of (stmt_seen c.args.area.now c.args.i) 0 ≡ 1 = eqb-true _ _ (sym c.is_stmt.ensures ∙ c.if-not-is_stmt.false) in
    let p = c.requires in
    (p.0, p.1, rw c.stmt.ensures.0 (p.0.1.left _ p.2 is_equation).0)

pub returns-in-Some-Short : goal.returns-in-Some-Short
unfolding is_short
returns-in-Some-Short c =
    let p = c.requires in
    let s = c.in-Some-Short in
    rw (s.is, s.field-0-is) at (short_equation _ _ _ p.0.1 _ _ _ p.2 (eqb-true _ _ (sym c.is_stmt.ensures ∙ c.if-not-is_stmt.false)) _ c.stmt.ensures.0 _ c.start_of.ensures)

pub returns-in-Some-Number : goal.returns-in-Some-Number
unfolding is_short
returns-in-Some-Number c =
    let p = c.requires in
    let s = c.in-Some-Number in
    rw (s.is, s.field-0-is) at (short_equation _ _ _ p.0.1 _ _ _ p.2 (eqb-true _ _ (sym c.is_stmt.ensures ∙ c.if-not-is_stmt.false)) _ c.stmt.ensures.0 _ c.start_of.ensures)

pub returns-in-None : goal.returns-in-None
unfolding is_short
returns-in-None c =
    let p = c.requires in
    rw c.in-None.is at (short_equation _ _ _ p.0.1 _ _ _ p.2 (eqb-true _ _ (sym c.is_stmt.ensures ∙ c.if-not-is_stmt.false)) _ c.stmt.ensures.0 _ c.start_of.ensures)
