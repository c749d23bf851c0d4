use mathlib.Core.Path.{◌≡◌}
use native.Mathlib.Omega.{arith}
use Rattle.area.proofs.Listings.{none_listed}
use Rattle.builder.proofs.laws.StartingLaws.{starting_none, starting_next_lent, starting_few_lent}
use Rattle.builder.proofs.errors.conditions.starting_errors.Goals as goal

pub loop-v-init : goal.loop-v-init
loop-v-init c = rw (starting_none _ _ _ _) (none_listed _)

pub state_error-requires : goal.state_error-requires
state_error-requires c = let p = c.requires in
    (p.model, p.righted, c.loop-v-test.true)

pub list-requires : goal.list-requires
list-requires c = starting_few_lent _ _ _ _ _ c.loop-v.invariant _ c.requires.few (omega arith)

pub loop-v-preserved : goal.loop-v-preserved
loop-v-preserved c = starting_next_lent _ _ _ _ _ c.loop-v.invariant _ c.state_error.ensures c.list.ensures

pub returns : goal.returns
returns c = let e : c.loop-v.v ≡ c.args.area.now.sizes.vars = omega (arith, c.loop-v-test.false) in
    rw e at c.loop-v.invariant
