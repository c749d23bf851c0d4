use Rattle.area.specs.Sections.{stmts_at}
use mathlib.Core.Path.{◌≡◌}
use mathlib.Core.List.{map}
use Rattle.builder.specs.Allocating.{role_as}
use Rattle.builder.proofs.laws.FateRecords.{rest}
use Rattle.builder.proofs.allocation.fates.write_fates_wide.Given as goal

abbrev pub invariant-loop-i : goal.invariant-loop-i
invariant-loop-i l = rest l.z.stmts (stmts_at l.z) (map role_as l.roles) l.area l.i l.queue ≡ rest l.z.stmts (stmts_at l.z) (map role_as l.roles) l.initial.area 0 l.states
