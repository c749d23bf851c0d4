use mathlib.Core.Path.{◌≡◌, sym, ◌∙◌}
use Prim.Native.Nat.{◌<◌}
use native.Mathlib.Omega.{arith}
use lib.ListN.{length, get_or}
use Rattle.std.proofs.lemmas.List.{take_all, take_more, length-take-le}
use Rattle.std.proofs.lemmas.List.Elements.{All-same}
use Rattle.builder.proofs.laws.RoleLoops.{lacking_below}
use Rattle.builder.proofs.allocation.pairing.lacking.Goals as goal

pub loop-v-init : goal.loop-v-init
loop-v-init c = c.new-states.ensures

pub overflow_cast-v : goal.overflow_cast-v
overflow_cast-v c =
    let all = c.as_slice-v-items.ensures.value ∙ c.lacking_wide-wide.ensures in
    let below : get_or c.as_slice-v-items.result.now c.loop-v.v-index 0 < c.args.area.now.sizes.vars = All-same (λ v. v < c.args.area.now.sizes.vars) _ _ all (lacking_below _ _ _) c.loop-v.v-index 0 c.loop-v-test.true in
    omega (arith, below, c.requires.0.vars)

pub push-requires : goal.push-requires
push-requires c =
    let long : length c.loop-v.states.items ≡ c.loop-v.v-index = rw c.loop-v.invariant (length-take-le _ _ (omega arith)) in
    (omega arith, omega (arith, long, c.as_slice-v-items.ensures.fits))

pub loop-v-preserved : goal.loop-v-preserved
loop-v-preserved c = c.push.ensures.items ∙ rw c.loop-v.invariant (sym (take_more _ c.loop-v.v-index 0 c.loop-v-test.true))

pub returns : goal.returns
returns c = c.loop-v.invariant ∙ take_all _ _ (omega arith) ∙ c.as_slice-v-items.ensures.value ∙ c.lacking_wide-wide.ensures
