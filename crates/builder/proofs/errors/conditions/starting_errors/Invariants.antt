use Rattle.ast.specs.Opens.{file_in}
use Rattle.definitions.specs.Flatten.{model_at}
use Rattle.area.specs.Views.{nodes_seen, stmts_seen}
use Rattle.area.specs.LentList.{Listed}
use Rattle.builder.specs.Starting.{starting_in}
use Rattle.builder.specs.Areas.{names_seen}
use Rattle.builder.proofs.errors.conditions.starting_errors.Given as goal

abbrev pub invariant-loop-v : goal.invariant-loop-v
invariant-loop-v l = Listed l.initial.errors (starting_in (model_at (file_in l.file.bytes.now l.file.sections) l.m).span (nodes_seen l.area) (stmts_seen l.area) (names_seen l.area) l.v) l.errors
