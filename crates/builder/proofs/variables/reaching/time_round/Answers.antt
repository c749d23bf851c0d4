use mathlib.Core.Path.{ap}
use mathlib.Core.Bool.{Bool, false, ◌||◌}
use native.Mathlib.Omega.{arith}
use lib.Dec.{eqb}
use Rattle.builder.proofs.laws.Filled.{filled_more}
use Rattle.builder.proofs.variables.reaching.time_round.Goals as goal

pub loop-v-preserved : goal.loop-v-preserved
loop-v-preserved c = let loop = c.loop-v in
    let e = ap (λ (b : Bool). eqb loop.v 0 || b) c.reaches_time.ensures in
    filled_more false 129 _ loop.v _ loop.new (omega (arith, c.requires.small.vars)) e loop.invariant
