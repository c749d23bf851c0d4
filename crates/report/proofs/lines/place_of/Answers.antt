use Rattle.report.specs.Tabled.{tabled_place}
use Rattle.report.proofs.lines.place_of.Goals as goal

pub returns : goal.returns
unfolding tabled_place
returns c = rw (← c.word-from.ensures.0, ← c.word-to.ensures.0) c.shown.ensures
