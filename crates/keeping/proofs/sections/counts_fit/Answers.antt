use Rattle.definitions.specs.Layout.{counts_fit}
use Rattle.keeping.proofs.sections.counts_fit.Goals as goal

pub returns : goal.returns
unfolding counts_fit
returns c = rw (c.header_word.ensures.0, c.header_word-2.ensures.0, c.header_word-3.ensures.0, c.header_word-4.ensures.0, c.header_word-5.ensures.0)
