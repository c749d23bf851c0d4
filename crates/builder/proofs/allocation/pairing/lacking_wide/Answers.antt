use mathlib.Core.Path.{◌≡◌, sym, ◌∙◌}
use Prim.Native.Nat.{◌≤◌}
use native.Mathlib.Omega.{arith}
use lib.ListN.{length}
use Rattle.builder.specs.Tables.{lacking_in}
use Rattle.builder.proofs.laws.RoleLoops.{lacking_with, lacking_without, lacking_few}
use Rattle.builder.proofs.allocation.pairing.lacking_wide.Goals as goal
use Rattle.builder.proofs.allocation.pairing.lacking_wide.Goals.{then-lacks, else-lacks}

pub loop-v-init : goal.loop-v-init
unfolding lacking_in
loop-v-init c = c.new-states.ensures

pub push-requires : goal.push-requires
push-requires c =
    let few : length c.loop-v.states.items ≤ c.loop-v.v = rw c.loop-v.invariant (lacking_few _ _ _) in
    (omega arith, omega (arith, few, c.requires.0.vars))

pub loop-v-preserved : goal.loop-v-preserved
loop-v-preserved c =
    elim c.if-lacks.branch [
      | then-lacks w ↦ rw (w.states-is, w.push.ensures.items, c.loop-v.invariant) (sym (lacking_with _ _ _ (sym c.lacks.ensures ∙ w.if-lacks.true)))
      | else-lacks w ↦ rw (w.states-is, c.loop-v.invariant) (sym (lacking_without _ _ _ (sym c.lacks.ensures ∙ w.if-lacks.false)))
    ]

pub returns : goal.returns
returns c =
    let all : c.loop-v.v ≡ c.args.area.now.sizes.vars = omega arith in
    rw all at c.loop-v.invariant
