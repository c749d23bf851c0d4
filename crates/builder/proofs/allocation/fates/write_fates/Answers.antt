use mathlib.Core.Path.{◌≡◌, sym, ◌∙◌}
use mathlib.Core.List.{map}
use native.Mathlib.Omega.{arith}
use lib.ListN.{length, length-take, length-map}
use Rattle.std.proofs.lemmas.List.{take_all, take_more, length-take-le}
use Rattle.builder.specs.Allocating.{role_as}
use Rattle.builder.proofs.laws.FateLaws.{fates_take}
use Rattle.builder.proofs.allocation.fates.write_fates.Goals as goal

pub loop-v-init : goal.loop-v-init
loop-v-init c = c.new-wide.ensures

pub push-requires : goal.push-requires
push-requires c =
    let long : length c.loop-v.wide.items ≡ c.loop-v.v-index = rw c.loop-v.invariant (length-take-le _ _ (omega arith)) in
    (omega arith, omega (arith, long, c.requires.0.stmts, c.min.ensures, length-take c.min.result c.args.states.now))

pub loop-v-preserved : goal.loop-v-preserved
loop-v-preserved c = c.push.ensures.items ∙ rw (c.loop-v.invariant, c.from.ensures) (sym (take_more _ c.loop-v.v-index 0 c.loop-v-test.true))

pub returns : goal.returns
returns c =
    let a = c.args in
    let roles = map role_as a.roles.now in
    let count : length roles ≡ a.z.stmts = simp length-map c.requires.2 in
    let all = take_all a.z.stmts roles (omega arith) in
    let wide = c.as_slice.ensures.value ∙ c.loop-v.invariant ∙ take_all _ _ (omega arith) in
    let few = fates_take c.min.result a.states.now roles (omega (arith, count, c.min.ensures)) in
    rw (wide, all, few) at c.write_fates_wide.ensures
