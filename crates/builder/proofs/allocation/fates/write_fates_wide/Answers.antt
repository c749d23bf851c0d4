use mathlib.Core.Path.{◌≡◌, sym, ◌∙◌}
use mathlib.Core.List.{map}
use Prim.Native.Nat.{◌+◌, ◌*◌, ◌≤◌}
use native.Mathlib.Omega.{arith}
use lib.ListN.{length, take, length-map}
use Rattle.std.proofs.lemmas.List.{take-map, length-take-le}
use Rattle.area.specs.Sections.{stmts_at, vars_at}
use Rattle.builder.specs.Allocating.{role_as}
use Rattle.builder.proofs.laws.FateRecords.{rest_all, rest_none, rest_more}
use Rattle.builder.proofs.allocation.fates.write_fates_wide.Goals as goal

pub loop-i-preserved : goal.loop-i-preserved
unfolding stmts_at vars_at
loop-i-preserved c =
    let a = c.args in
    let loop = c.loop-i in
    let written = c.write_fate-queue.ensures in
    let roles = map role_as (take a.z.stmts a.roles.now) in
    let count : length roles ≡ a.z.stmts = simp length-map (length-take-le _ _ c.requires.2) in
    let room : stmts_at a.z + 32 * a.z.stmts ≤ length loop.area = omega arith in
    sym (rest_more a.z.stmts (stmts_at a.z) roles loop.area _ loop.i loop.queue.now _ c.loop-i-test.true count room written.0 written.1) ∙ loop.invariant

pub returns : goal.returns
returns c =
    let a = c.args in
    let loop = c.loop-i in
    let roles = map role_as (take a.z.stmts a.roles.now) in
    rw take-map (sym (rest_none a.z.stmts (stmts_at a.z) roles loop.area loop.i loop.queue.now c.loop-i-test.false) ∙ loop.invariant ∙ rest_all a.z.stmts (stmts_at a.z) roles a.area.now a.states.now)
