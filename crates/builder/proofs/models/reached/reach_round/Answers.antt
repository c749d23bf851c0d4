use Rattle.ast.specs.Opens.{file_in}
use Rattle.builder.proofs.laws.Rounds.{stepped_none}
use Rattle.builder.proofs.models.reached.reach_round.Goals as goal

pub loop-a-init : goal.loop-a-init
loop-a-init c = let a = c.args in
    stepped_none (file_in a.calls.now.file.bytes.now a.calls.now.file.sections) a.calls.now.file.sections.counts.models a.old.now
