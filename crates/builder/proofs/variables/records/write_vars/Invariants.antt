use Rattle.ast.specs.Opens.{file_in}
use Rattle.builder.specs.Root.{scope_at}
use Rattle.builder.proofs.laws.VarsWritten.{Written}
use Rattle.builder.proofs.variables.records.write_vars.Given as goal

abbrev pub invariant-loop-v : goal.invariant-loop-v
invariant-loop-v l = Written (scope_at (file_in l.names.file.bytes.now l.names.file.sections) l.m).vars l.z l.initial.area l.v l.done l.area
