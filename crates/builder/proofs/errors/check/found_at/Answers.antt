-- `builder::check::found_at` meets its contract: the span's words are those of the node.
use mathlib.Core.Path.{refl}
use Rattle.functions.specs.Lists.{unless}
use Rattle.ast.specs.Words.{span_from}
use Rattle.area.specs.Listing.{found_as}
use Rattle.builder.proofs.errors.check.found_at.Goals as goal

pub returns-then-passed : goal.returns-then-passed
unfolding unless found_as
returns-then-passed c = rw c.if-passed.true refl

pub returns : goal.returns
unfolding unless found_as span_from
returns c = rw (c.if-passed.false, c.field-from.ensures, c.field-to.ensures) refl
