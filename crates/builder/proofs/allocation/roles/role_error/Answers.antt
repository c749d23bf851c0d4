use mathlib.Core.Path.{◌≡◌, sym, ◌∙◌}
use Prim.Native.Nat.{◌<◌}
use native.Mathlib.Omega.{arith}
use borrow.Author.Tests.{eqb-true, eqb-false}
use Rattle.ast.specs.Words.{word_of}
use Rattle.area.specs.Sections.{stmts_at}
use Rattle.area.specs.Views.{stmt_seen}
use Rattle.builder.proofs.laws.LeftSides.{start_fits, start_calls}
use Rattle.builder.proofs.laws.Flats.{rate_name}
use Rattle.builder.proofs.laws.RoleErrors.{errors_equation, errors_rate}
use Rattle.builder.proofs.allocation.roles.role_error.Goals as goal

pub start_of-start-requires : goal.start_of-start-requires
start_of-start-requires c =
    let p = c.requires in
    let is_equation : word_of (stmt_seen c.args.area.now c.args.i) 0 ≡ 1 = eqb-true _ _ (sym c.is_stmt.ensures ∙ c.if-is_stmt.true) in
    let left_there : word_of (stmt_seen c.args.area.now c.args.i) 2 < c.args.area.now.sizes.nodes = (p.0.1.left _ p.2 is_equation).0 in
    (p.0, p.1, rw c.stmt-left.ensures.0 left_there)

pub start_error-requires : goal.start_error-requires
unfolding stmts_at
start_error-requires c =
    let p = c.requires in
    let is_equation : word_of (stmt_seen c.args.area.now c.args.i) 0 ≡ 1 = eqb-true _ _ (sym c.is_stmt.ensures ∙ c.if-is_stmt.true) in
    let left_there : word_of (stmt_seen c.args.area.now c.args.i) 2 < c.args.area.now.sizes.nodes = (p.0.1.left _ p.2 is_equation).0 in
    let F = p.0.1 in
    rw (c.start_of-start.ensures, c.stmt-left.ensures.0) (record { small = F.small; long = omega (arith, F.long); within = left_there; fits = start_fits _ _ _ F.nodes F.few _ _ p.1 _ left_there; calls = start_calls _ _ _ F.nodes F.few _ _ _ left_there })

pub returns-then-is_stmt : goal.returns-then-is_stmt
returns-then-is_stmt c =
    let is_equation : word_of (stmt_seen c.args.area.now c.args.i) 0 ≡ 1 = eqb-true _ _ (sym c.is_stmt.ensures ∙ c.if-is_stmt.true) in
    let p = c.requires in
    rw (errors_equation _ _ _ p.0.1 _ _ _ _ _ p.2 is_equation) (rw (c.start_of-start.ensures, c.stmt-left.ensures.0) at c.start_error.ensures)

pub rate_error-requires : goal.rate_error-requires
rate_error-requires c = let p = c.requires in
    (p.0.1.small, p.2, rate_name _ _ _ p.0.1 _ p.2 (eqb-false _ _ (sym c.is_stmt.ensures ∙ c.if-is_stmt.false)), p.1)

pub returns : goal.returns
returns c = let p = c.requires in
    rw (errors_rate _ _ _ p.0.1 _ _ _ _ _ p.2 (eqb-false _ _ (sym c.is_stmt.ensures ∙ c.if-is_stmt.false))) c.rate_error.ensures
