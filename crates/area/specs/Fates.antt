-- The number of each fate of a statement.
use Rattle.std.specs.Prelude.{ℕ}
use Rattle.definitions.specs.Numbers.{initial_fate, held_fate, replaced_fate, left_over_fate}
use Rattle.area.specs.declared.layout.Fate.{Fate}
use Rattle.area.specs.declared.layout.Fate.TheVariants.{Initial, Held, Replaced, LeftOver}

abbrev pub fate_number : Fate → ℕ
fate_number Initial = initial_fate
fate_number Held = held_fate
fate_number Replaced = replaced_fate
fate_number LeftOver = left_over_fate
