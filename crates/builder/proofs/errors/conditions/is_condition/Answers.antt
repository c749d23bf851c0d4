use mathlib.Core.Path.{refl}
use native.Mathlib.Omega.{arith}
use Rattle.area.specs.Sections.{deps_at}
use Rattle.builder.specs.Fating.{is_fated}
use Rattle.builder.proofs.errors.conditions.is_condition.Goals as goal

pub is_fated-requires : goal.is_fated-requires
unfolding deps_at
is_fated-requires c = let p = c.requires in
    (p.0.small, omega (arith, p.0.long), p.1)

pub stmt-requires : goal.stmt-requires
unfolding deps_at
stmt-requires c = let p = c.requires in
    (p.0.small, omega (arith, p.0.long), p.1, omega arith)

pub returns : goal.returns
unfolding is_fated
returns c = rw (c.is_fated.ensures, c.stmt.ensures.0) refl
