use mathlib.Core.Path.{◌≡◌}
use lib.ListN.{take}
use Rattle.builder.proofs.allocation.fates.write_fates.Given as goal

abbrev pub invariant-loop-v : goal.invariant-loop-v
invariant-loop-v l = l.wide.items ≡ take l.v-index l.looked_at
