use mathlib.Core.Path.{refl}
use Rattle.definitions.specs.Layout.{row_fits}
use Rattle.keeping.proofs.stmts.row_fits.Goals as goal

pub returns : goal.returns
unfolding row_fits
returns c = rw (c.stmt_fits.ensures, c.word.ensures.0, c.fate_fits.ensures) refl
