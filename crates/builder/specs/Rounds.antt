-- One round over the table of models reached: what each entry of the next table says of the last one.
use Rattle.std.specs.Prelude.{ℕ, ◌+◌, ◌*◌, ◌≤◌, ◌<◌, ◌≡◌, Bool, cond, ◌||◌, List, eqb, length, get_or}
use Rattle.functions.specs.Lists.{any, flag}
use Rattle.ast.specs.Tree.{File}
use Rattle.definitions.specs.Numbers.{most_models}
use Rattle.definitions.specs.Flatten.{submodels}

-- The entries of a table of models reached: one for each two models.
abbrev pub model_pairs : ℕ
model_pairs = most_models * most_models

-- Whether model m is b, or b is reached from it by the table.
unfoldable pub onward : List ℕ → ℕ → ℕ → Bool
onward old b m = eqb m b || eqb (get_or old (most_models * m + b) 0) 1

-- Whether a model that a calls is b, or b is reached from it by the table.
unfoldable pub steps_on : File → List ℕ → ℕ → ℕ → Bool
steps_on f old a b = any (onward old b) (submodels f a)

-- Of n entries of row a, those that pass are set to 1, and all others of the table stay.
pub record Added (n a : ℕ) (p : ℕ → Bool) (was new : List ℕ) : Type 0 where
  pub size : length new ≡ length was
  pub row : (y : ℕ) → y < n → get_or new (most_models * a + y) 0 ≡ cond (p y) 1 (get_or was (most_models * a + y) 0)
  pub before : (z : ℕ) → z < most_models * a → get_or new z 0 ≡ get_or was z 0
  pub behind : (z : ℕ) → most_models * a + n ≤ z → get_or new z 0 ≡ get_or was z 0

-- Of n models, the rows below a are one step on, and the others are still 0.
pub record Stepped (f : File) (n : ℕ) (old : List ℕ) (a : ℕ) (new : List ℕ) : Type 0 where
  pub size : length new ≡ model_pairs
  pub rows : (x y : ℕ) → x < a → y < n → get_or new (most_models * x + y) 0 ≡ flag (steps_on f old x y)
  pub rest : (z : ℕ) → most_models * a ≤ z → z < model_pairs → get_or new z 0 ≡ 0

-- Two of so many models, and two tables of models reached: model c's row of the last table goes to model a's row of the next.
pub record RowsOf (models c a : ℕ) (old new : List ℕ) : Type 0 where
  pub old_long : length old ≡ model_pairs
  pub new_long : length new ≡ model_pairs
  pub few : models ≤ most_models
  pub called : c < models
  pub row : a < models
