use Rattle.ast.specs.Words.{in_order, span_from}
use Rattle.definitions.specs.Layout.{error_fits}
use Rattle.keeping.proofs.errors.error_fits.Goals as goal

pub returns : goal.returns
unfolding error_fits in_order span_from
returns c = rw (c.word-kind.ensures.0, c.word.ensures.0, c.word-2.ensures.0, c.word-3.ensures.0)
