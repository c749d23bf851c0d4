use Rattle.builder.proofs.laws.Replacing.{Filling}
use Rattle.builder.proofs.flattening.replacements.fill_row.Given as goal

abbrev pub invariant-loop-i : goal.invariant-loop-i
invariant-loop-i l = Filling l.file.bytes.now l.file.sections l.m l.call l.row l.end l.i
