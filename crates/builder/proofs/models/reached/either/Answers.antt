use mathlib.Core.Path.{◌≡◌}
use mathlib.Core.Bool.{true, false}
use lib.Dec.{eqb}
use borrow.Author.Tests.{eq-eqb, ne_eqb}
use Rattle.builder.proofs.models.reached.either.Goals as goal

pub returns-then-y-eq1 : goal.returns-then-y-eq1
returns-then-y-eq1 c = let e : eqb c.args.y 1 ≡ true = eq-eqb _ _ c.if-y-eq1.true in
    rw e

pub returns-else-y-eq1 : goal.returns-else-y-eq1
returns-else-y-eq1 c = let e : eqb c.args.y 1 ≡ false = ne_eqb _ _ c.if-y-eq1.false in
    rw e
