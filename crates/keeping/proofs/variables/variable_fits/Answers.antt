use Rattle.definitions.specs.Layout.{variable_fits}
use Rattle.keeping.proofs.variables.variable_fits.Goals as goal

pub returns : goal.returns
unfolding variable_fits
returns c = rw (
  c.word-count.ensures.0,
  c.word.ensures.0,
  c.word-2.ensures.0,
  c.word-3.ensures.0,
  c.word-4.ensures.0,
  c.word-5.ensures.0,
  c.word-6.ensures.0,
  c.word-7.ensures.0,
)
