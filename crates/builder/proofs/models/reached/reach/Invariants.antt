use mathlib.Core.Path.{◌≡◌}
use lib.ListN.{length}
use Rattle.ast.specs.Opens.{file_in}
use Rattle.builder.specs.Tables.{Reaching}
use Rattle.builder.proofs.models.reached.reach.Given as goal

abbrev pub invariant-loop : goal.invariant-loop
invariant-loop l = (length l.table ≡ 1024) × Reaching (file_in l.calls.file.bytes.now l.calls.file.sections) l.calls.file.sections.counts.models l.counter l.table
