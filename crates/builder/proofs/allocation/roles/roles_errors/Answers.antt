use mathlib.Core.List.{List}
use native.Mathlib.Omega.{arith}
use Rattle.ast.specs.Tree.{Flat}
use Rattle.definitions.specs.Variables.{Error}
use Rattle.builder.specs.Allocating.{role_errors_by}
use Rattle.builder.specs.Areas.{flats_seen, indexes_seen, rates_seen}
use Rattle.builder.proofs.laws.ModelErrors.{run_begins_lent}
use Rattle.builder.proofs.laws.RoleErrors.{statement_room_lent, statement_goes_lent, statements_end_lent}
use Rattle.builder.proofs.allocation.roles.roles_errors.Goals as goal

pub loop-i-init : goal.loop-i-init
loop-i-init c =
    let errors : Flat → List Error = role_errors_by c.args.numbers.now (indexes_seen c.args.area.now) (rates_seen c.args.area.now) c.args.lower in
    run_begins_lent errors (flats_seen c.args.area.now) _

pub role_error-requires : goal.role_error-requires
role_error-requires c = let p = c.requires in
    (p.0, p.1, omega (arith, c.loop-i-test.true))

pub list-requires : goal.list-requires
list-requires c =
    let errors : Flat → List Error = role_errors_by c.args.numbers.now (indexes_seen c.args.area.now) (rates_seen c.args.area.now) c.args.lower in
    statement_room_lent c.args.area.now.bytes.now c.args.area.now.sizes errors c.loop-i.i c.loop-i.invariant (omega (arith, c.loop-i-test.true)) c.requires.2

pub loop-i-preserved : goal.loop-i-preserved
loop-i-preserved c =
    let errors : Flat → List Error = role_errors_by c.args.numbers.now (indexes_seen c.args.area.now) (rates_seen c.args.area.now) c.args.lower in
    statement_goes_lent c.args.area.now.bytes.now c.args.area.now.sizes errors c.loop-i.i c.loop-i.invariant (omega (arith, c.loop-i-test.true)) _ c.role_error.ensures c.list.ensures

pub returns : goal.returns
returns c =
    let errors : Flat → List Error = role_errors_by c.args.numbers.now (indexes_seen c.args.area.now) (rates_seen c.args.area.now) c.args.lower in
    statements_end_lent c.args.area.now.bytes.now c.args.area.now.sizes errors c.loop-i.i c.loop-i.invariant (omega (arith, c.loop-i-test.false))
