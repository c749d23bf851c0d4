use mathlib.Core.Path.{refl, sym, ◌∙◌}
use borrow.Author.Tests.{ne_eqb}
use Rattle.definitions.specs.Layout.{fate_fits}
use Rattle.keeping.proofs.stmts.fate_fits.Goals as goal

pub returns-then-fate : goal.returns-then-fate
unfolding fate_fits
returns-then-fate c = rw (sym c.word-fate.ensures.0 ∙ c.if-fate.true, c.word-variable.ensures.0) refl

pub returns : goal.returns
unfolding fate_fits
returns c = simp (c.word-fate.ensures.0, c.word-variable.ensures.0, rw c.word-fate.ensures.0 at (ne_eqb _ _ c.if-fate.false))
