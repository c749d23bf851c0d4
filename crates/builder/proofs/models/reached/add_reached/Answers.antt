use borrow.Author.Rules.{rules}
use Rattle.builder.specs.Rounds.{onward}
use Rattle.builder.proofs.models.reached.add_reached.Goals as goal

pub returns : goal.returns
unfolding onward
returns c = search rules
