use mathlib.Core.Path.{◌≡◌}
use mathlib.Core.List.{map}
use Rattle.builder.specs.Tables.{lacking_in}
use Rattle.builder.specs.Allocating.{role_as}
use Rattle.builder.specs.Areas.{states_seen}
use Rattle.builder.proofs.allocation.pairing.lacking_wide.Given as goal

abbrev pub invariant-loop-v : goal.invariant-loop-v
invariant-loop-v l = l.states.items ≡ lacking_in (map role_as l.roles) (states_seen l.area) l.v
