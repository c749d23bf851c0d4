use mathlib.Core.Path.{sym, ◌∙◌}
use Rattle.area.specs.Listing.{found_as}
use Rattle.area.proofs.Listings.{found_one}
use Rattle.builder.proofs.laws.StartingLaws.{count_same, count_under, count_over}
use Rattle.builder.proofs.errors.conditions.count_error.Goals as goal

pub returns-in-Equal : goal.returns-in-Equal
unfolding found_as
returns-in-Equal c = sym (count_same _ _ _ c.in-Equal.ensures)

pub returns-in-Less : goal.returns-in-Less
returns-in-Less c = found_one _ _ c.model_error.ensures ∙ sym (count_under _ _ _ c.in-Less.ensures)

pub returns-in-Greater : goal.returns-in-Greater
returns-in-Greater c = found_one _ _ c.model_error-in-Greater.ensures ∙ sym (count_over _ _ _ c.in-Greater.ensures)
