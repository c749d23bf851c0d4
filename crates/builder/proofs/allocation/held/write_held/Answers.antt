use mathlib.Core.Path.{◌≡◌}
use Prim.Native.Nat.{◌+◌, ◌-◌}
use native.Mathlib.Omega.{arith}
use Rattle.builder.proofs.laws.HeldSteps.{held_none, held_same, held_then}
use Rattle.builder.proofs.laws.HeldRecords.{held_put}
use Rattle.builder.proofs.allocation.held.write_held.Goals as goal

pub loop-i-init : goal.loop-i-init
loop-i-init c = let a = c.args in
    (λ j. omega (arith, c.type_inv.area j), held_none a.z a.area.now c.requires, held_same a.z a.area.now)

pub hold_stmt-requires : goal.hold_stmt-requires
hold_stmt-requires c = let loop = c.loop-i in
    let e : loop.i - 1 + 1 ≡ loop.i = omega arith in
    (rw e loop.invariant.1, omega arith)

pub loop-i-preserved : goal.loop-i-preserved
loop-i-preserved c = let loop = c.loop-i in
    let held = c.hold_stmt.ensures in
    (λ j. omega (arith, c.type_inv.area j), held.0, held_then c.args.z c.args.area.now loop.area _ loop.invariant.2 held.1)

pub returns : goal.returns
returns c = let a = c.args in
    let loop = c.loop-i in
    let e : loop.i ≡ 0 = omega arith in
    held_put a.z a.area.now loop.area (rw e at loop.invariant.1) loop.invariant.2 loop.invariant.0
