use mathlib.Core.Path.{refl}
use native.Mathlib.Omega.{arith}
use Rattle.area.proofs.VarsWritten.{vars_stay}
use Rattle.builder.specs.Allocating.{names_in}
use Rattle.builder.proofs.laws.Rosters.{more_room, declare_put, declare_old}
use Rattle.builder.proofs.variables.roster.declare.Goals as goal

pub returns-then-numbers-name-ne0 : goal.returns-then-numbers-name-ne0
returns-then-numbers-name-ne0 c = let a = c.args in
    let p = c.requires in
    (declare_old (names_in a.area.now a.z) a.numbers.now a.name p.1 p.3 c.if-numbers-name-ne0.true, record { nodes = refl; stmts = refl; vars = omega arith; deps = refl }, omega arith, vars_stay a.z a.area.now)

pub put_var-requires : goal.put_var-requires
put_var-requires c = let a = c.args in
    let p = c.requires in
    let (small, room) = more_room a.z a.area.now p.0 p.2 in
    (small, room, omega arith, omega arith)

pub returns : goal.returns
returns c = let a = c.args in
    let p = c.requires in
    declare_put a.z a.area.now _ p.0 p.2 a.name a.numbers.now p.1 p.3 c.if-numbers-name-ne0.false c.put_var.ensures
