use mathlib.Core.Path.{◌≡◌}
use mathlib.Core.List.{map}
use Rattle.std.specs.List.{All, range_with_len}
use Rattle.builder.specs.Allocating.{role_as, role_by, Narrow}
use Rattle.builder.specs.Areas.{flat_seen, indexes_seen, rates_seen}
use Rattle.builder.proofs.allocation.roles.roles.Given as goal

abbrev pub invariant-loop-i : goal.invariant-loop-i
invariant-loop-i l =
    (map role_as l.out.items ≡ map (λ k. role_by l.numbers (indexes_seen l.area) (rates_seen l.area) l.lower (flat_seen l.area k)) (range_with_len 0 l.i))
    × All Narrow l.out.items
