use mathlib.Core.Path.{refl}
use mathlib.Core.List.{[]}
use native.Mathlib.Omega.{arith}
use lib.ListN.{get_or}
use Rattle.std.proofs.Common.{rules}
use Rattle.std.proofs.lemmas.Iterator.{YieldsList-from_range}
use Rattle.std.proofs.lemmas.Iterator.Search.{find_from_yields_List}
use Rattle.area.specs.Sections.{stmts_at}
use Rattle.area.specs.Views.{stmts_seen}
use Rattle.ast.proofs.Fields.{length_section}
use Rattle.builder.specs.Fating.{is_fated}
use Rattle.builder.proofs.laws.StartingLaws.{found_place}
use Rattle.builder.proofs.errors.conditions.first_condition.Goals as goal

pub returns : goal.returns
returns c = let a = c.args in
    let count = length_section 8 a.area.now.sizes.stmts (stmts_at a.area.now.sizes) a.area.now.bytes.now in
    found_place (is_fated 1 a.v) (stmts_seen a.area.now) _ (rw count (find_from_yields_List (λ i. is_fated 1 a.v (get_or (stmts_seen a.area.now) i [])) _ _ c.find.result c.find.ensures.ran (YieldsList-from_range 0 a.area.now.sizes.stmts _ refl (omega arith)) (λ x b q k. search rules)))
