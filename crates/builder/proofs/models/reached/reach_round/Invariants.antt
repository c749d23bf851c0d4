use Rattle.ast.specs.Opens.{file_in}
use Rattle.builder.specs.Rounds.{Stepped}
use Rattle.builder.proofs.models.reached.reach_round.Given as goal

abbrev pub invariant-loop-a : goal.invariant-loop-a
invariant-loop-a l = Stepped (file_in l.calls.file.bytes.now l.calls.file.sections) l.calls.file.sections.counts.models l.old l.a l.new
