use mathlib.Core.Path.{◌≡◌}
use lib.ListN.{take}
use Rattle.builder.proofs.allocation.pairing.lacking.Given as goal

abbrev pub invariant-loop-v : goal.invariant-loop-v
invariant-loop-v l = l.states.items ≡ take l.v-index l.v-items
