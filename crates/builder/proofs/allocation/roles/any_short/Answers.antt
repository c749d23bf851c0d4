use mathlib.Core.Path.{refl, ◌∙◌}
use native.Mathlib.Omega.{arith}
use Rattle.std.proofs.Common.{rules}
use Rattle.std.proofs.lemmas.Iterator.{YieldsList-from_range}
use Rattle.std.proofs.lemmas.Iterator.Search.{any_from_yields_List}
use Rattle.builder.specs.Allocating.{short_by}
use Rattle.builder.specs.Areas.{flat_seen, indexes_seen}
use Rattle.builder.proofs.laws.Flats.{any_by}
use Rattle.builder.proofs.allocation.roles.any_short.Goals as goal

pub returns : goal.returns
returns c = let a = c.args in
    any_from_yields_List (λ i. short_by a.numbers.now (indexes_seen a.area.now) (flat_seen a.area.now i)) _ _ _ c.any.ensures.ran (YieldsList-from_range 0 a.area.now.sizes.stmts _ refl (omega arith)) (λ x b q k. search rules) ∙ any_by _ _ _
