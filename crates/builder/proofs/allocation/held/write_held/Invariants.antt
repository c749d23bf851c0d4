use Rattle.builder.specs.VarRecords.{HeldBehind, HeldChanged}
use Rattle.builder.proofs.laws.FateRecords.{AllBytes}
use Rattle.builder.proofs.allocation.held.write_held.Given as goal

abbrev pub invariant-loop-i : goal.invariant-loop-i
invariant-loop-i l = AllBytes l.area × HeldBehind l.z l.i l.area × HeldChanged l.z l.initial.area l.area
