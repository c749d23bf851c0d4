-- The number of each refusal of a model, and of a build.
use Rattle.std.specs.Prelude.{ℕ}
use Rattle.builder.specs.declared.refusal.Refusal.{Refusal}
use Rattle.builder.specs.declared.refusal.Refusal.TheVariants.{NoRoot, ModelCycle, SelfListedUnknown, ArgumentBeyond, OverMost, ShortLeftSide}
use Rattle.builder.specs.declared.refusal.Refused.{Refused}
use Rattle.builder.specs.declared.refusal.Refused.TheVariants.{ShortArea, File, Model}
use Rattle.ast.specs.Opens.{refusal_number}
use Rattle.definitions.specs.Numbers.{short_area, no_root, model_cycle, self_listed_unknown, argument_beyond, over_most, short_left_side}

abbrev pub number_of : Refusal → ℕ
number_of NoRoot = no_root
number_of ModelCycle = model_cycle
number_of SelfListedUnknown = self_listed_unknown
number_of ArgumentBeyond = argument_beyond
number_of OverMost = over_most
number_of ShortLeftSide = short_left_side

abbrev pub refused_number : Refused → ℕ
refused_number ShortArea = short_area
refused_number (File r) = refusal_number r
refused_number (Model r) = number_of r
