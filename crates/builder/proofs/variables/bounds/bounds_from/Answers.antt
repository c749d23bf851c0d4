use mathlib.Core.Path.{refl}
use Rattle.ast.specs.Numbers.{number_of}
use Rattle.builder.specs.Bounding.{floats, bounds_from}
use Rattle.definitions.specs.Variables.{from_zero, unbounded, infinity, minus_infinity}
use Rattle.builder.proofs.variables.bounds.bounds_from.Goals as goal

pub returns-then-floor : goal.returns-then-floor
unfolding number_of floats bounds_from from_zero unbounded infinity minus_infinity
returns-then-floor c = rw c.if-floor.true refl

pub returns-else-floor : goal.returns-else-floor
unfolding number_of floats bounds_from from_zero unbounded infinity minus_infinity
returns-else-floor c = rw c.if-floor.false refl
