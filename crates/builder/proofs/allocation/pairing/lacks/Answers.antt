use mathlib.Core.Path.{refl}
use Rattle.builder.specs.Tables.{lacks_in}
use Rattle.builder.proofs.allocation.pairing.lacks.Goals as goal

pub returns : goal.returns
unfolding lacks_in
returns c = rw (c.has_rate.ensures, c.var.ensures) refl
