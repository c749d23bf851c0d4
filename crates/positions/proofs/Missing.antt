-- What is shown for a span, by the test of its two words.
use mathlib.Core.Path.{◌≡◌, refl}
use mathlib.Core.Bool.{true, false, ◌&&◌}
use Prim.Native.Nat.{ℕ}
use lib.Dec.{eqb}
use Rattle.std.specs.Prelude.{Option, None}
use Rattle.ast.specs.FileNumbers.{missing_word}
use Rattle.positions.specs.declared.Place.{Place}
use Rattle.positions.specs.Positions.{is_missing, shown_for}

module _ (from to : ℕ) (p : Option Place) where
  pub shown_missing : (eqb from missing_word && eqb to missing_word) ≡ true → None ≡ shown_for from to p
  unfolding shown_for is_missing
  shown_missing h = rw h refl

  pub shown_there : (eqb from missing_word && eqb to missing_word) ≡ false → p ≡ shown_for from to p
  unfolding shown_for is_missing
  shown_there h = rw h refl
