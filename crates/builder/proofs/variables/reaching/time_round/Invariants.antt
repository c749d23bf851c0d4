use mathlib.Core.Bool.{false, ◌||◌}
use lib.Dec.{eqb}
use Rattle.functions.specs.Lists.{any}
use Rattle.builder.specs.Reaching.{leads}
use Rattle.builder.specs.Areas.{deps_seen, marks_seen}
use Rattle.builder.proofs.laws.Filled.{Filled}
use Rattle.builder.proofs.variables.reaching.time_round.Given as goal

abbrev pub invariant-loop-v : goal.invariant-loop-v
invariant-loop-v l = Filled false 129 (λ w. eqb w 0 || any (leads (marks_seen l.area)) (deps_seen l.area w)) l.v l.new
