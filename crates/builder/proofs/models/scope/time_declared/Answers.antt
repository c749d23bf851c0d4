use mathlib.Core.Path.{◌≡◌}
use native.Mathlib.Omega.{arith}
use Prim.Native.Nat.{suc, ◌<◌}
use Rattle.functions.specs.Lists.{plus_one}
use Rattle.ast.specs.Opens.{file_in}
use Rattle.definitions.specs.Names.{time_name}
use Rattle.builder.specs.Starting.{place_as}
use Rattle.builder.proofs.laws.Open.{names_long}
use Rattle.builder.proofs.laws.ScopeTables.{time_below, marks_none, marks_time}
use Rattle.builder.proofs.models.scope.time_declared.Goals.{In-Some}
use Rattle.builder.proofs.models.scope.time_declared.Goals as goal

-- t's name is one of the table's
time_small : (c : In-Some) → c.in-Some.time < 256
unfolding plus_one place_as
time_small c = let a = c.args in
    let e : suc c.in-Some.time ≡ time_name (file_in a.names.now.file.bytes.now a.names.now.file.sections).names = c.in-Some.ensures in
    omega (arith, e, time_below (file_in a.names.now.file.bytes.now a.names.now.file.sections).names, names_long a.names.now.file.bytes.now a.names.now.file.sections, a.names.now.file.opened.laid.within.names)

pub offset_bounds-out-time : goal.offset_bounds-out-time
offset_bounds-out-time c = omega (arith, time_small (goal.at.offset_bounds-out-time c).In-Some)

pub bounds-out-time : goal.bounds-out-time
bounds-out-time c = omega (arith, c.requires.long, time_small (goal.at.bounds-out-time c).In-Some)

pub returns-in-Some : goal.returns-in-Some
unfolding plus_one place_as
returns-in-Some c = let p = c.requires in
    marks_time _ _ c.args.out.now p.long p.zeros c.in-Some.time c.in-Some.ensures (time_small (goal.at.returns-in-Some c).In-Some)

pub returns-in_default : goal.returns-in_default
unfolding plus_one place_as
returns-in_default c = let p = c.requires in
    marks_none _ _ c.args.out.now p.long p.zeros c.in_default.ensures
