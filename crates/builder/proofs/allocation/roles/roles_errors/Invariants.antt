use lib.ListN.{take}
use Rattle.functions.specs.Lists.{each}
use Rattle.area.specs.LentList.{Listed}
use Rattle.builder.specs.Allocating.{role_errors_by}
use Rattle.builder.specs.Areas.{flats_seen, indexes_seen, rates_seen}
use Rattle.builder.proofs.allocation.roles.roles_errors.Given as goal

abbrev pub invariant-loop-i : goal.invariant-loop-i
invariant-loop-i l = Listed l.initial.errors (each (role_errors_by l.numbers (indexes_seen l.area) (rates_seen l.area) l.lower) (take l.i (flats_seen l.area))) l.errors
