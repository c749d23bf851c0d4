use mathlib.Core.Path.{sym}
use Rattle.builder.proofs.laws.Flats.{rate_at}
use Rattle.builder.proofs.allocation.roles.takes_rate.Goals as goal

pub returns : goal.returns
returns c = rw (c.var.ensures, c.var-2.ensures) (sym (rate_at _ _ _))
