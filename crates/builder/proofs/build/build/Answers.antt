use Rattle.builder.proofs.laws.Answers.{cleared}
use Rattle.builder.proofs.build.build.Goals as goal

pub returns : goal.returns
returns c = let w = c.write-answer in
    cleared _ _ c.args.area.now w.new.area _ w.ensures w.auto.area (rw c.unwrap_or.ensures at c.clear.ensures)
