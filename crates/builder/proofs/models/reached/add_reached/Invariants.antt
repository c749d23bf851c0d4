use Prim.Native.Nat.{◌+◌, ◌*◌}
use lib.Dec.{eqb}
use lib.ListN.{get_or}
use Rattle.builder.specs.Rounds.{Added}
use Rattle.builder.proofs.models.reached.add_reached.Given as goal

abbrev pub invariant-loop-b : goal.invariant-loop-b
invariant-loop-b l = Added l.b l.a (λ y. eqb (get_or l.old (32 * l.c + y) 0) 1) l.initial.new l.new
