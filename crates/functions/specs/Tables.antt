-- A table of names as code keeps it: pairs of a text and a value.
use Rattle.std.specs.Prelude.{ℕ, List, [], ◌∷◌, cond}
use denote.Ref.{Bor}
use Rattle.functions.specs.Lists.{same_text}

-- the value of the first pair whose text is f, or another
unfoldable pub value_among : {V : Type 0} → V → List (Bor (List ℕ) × V) → List ℕ → V
value_among other [] f = other
value_among other ((b, v) ∷ ps) f = cond (same_text f b.now) v (value_among other ps f)
