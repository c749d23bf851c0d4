use Rattle.builder.proofs.laws.RootFinish.{allocate_needs}
use Rattle.builder.proofs.laws.ShortAnswers.{short_given, used_given}
use Rattle.builder.proofs.answer.answer_laid.Goals as goal

pub any_short-requires : goal.any_short-requires
any_short-requires c = let p = c.requires in
    allocate_needs p.0 p.1

pub returns-then-any_short : goal.returns-then-any_short
returns-then-any_short c = let p = c.requires in
    short_given p.0.known p.1 c.any_short.ensures c.if-any_short.true _

pub returns : goal.returns
returns c = let p = c.requires in
    used_given p.0.known p.1 c.any_short.ensures c.if-any_short.false _ c.write_answer.ensures
