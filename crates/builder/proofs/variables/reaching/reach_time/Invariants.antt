use Rattle.area.specs.Sections.{area_vars, VarsAre}
use Rattle.builder.specs.Reaching.{timed_by, timed_from}
use Rattle.builder.proofs.variables.reaching.reach_time.Given as goal

abbrev pub invariant-loop : goal.invariant-loop
invariant-loop l = VarsAre l.z l.initial.area (timed_from (timed_by l.initial.area l.z l.counter) 0 (area_vars l.initial.area l.z)) l.area
