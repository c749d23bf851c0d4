use mathlib.Core.Bool.{false}
use lib.ListN.{get_or}
use Rattle.builder.proofs.laws.TimeRounds.{TakenOver}
use Rattle.builder.proofs.variables.reaching.take_marks.Given as goal

abbrev pub invariant-loop-v : goal.invariant-loop-v
invariant-loop-v l = TakenOver l.z l.initial.area (λ w. get_or l.next w false) l.v l.changed l.area
