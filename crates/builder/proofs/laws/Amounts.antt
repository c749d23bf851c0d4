-- How many instances a model has, statement by statement; and the model that a statement calls.
use mathlib.Core.Path.{◌≡◌, refl, sym, ap, ◌∙◌}
use mathlib.Core.List.{List, [], ◌∷◌}
use mathlib.Core.Option.{none, some}
use Prim.Native.Nat.{ℕ, zero, suc, ◌+◌, ◌-◌, ◌≤◌, ◌<◌}
use native.Mathlib.Omega.{arith}
use native.Mathlib.Numerals.{add-one, sub-one}
use lib.ListN.{length, take, get_or}
use lib.Seq.{take-suc, take_all}
use Rattle.functions.specs.Lists.{each, sum_of}
use Rattle.ast.specs.Tree.{Stmt, File}
use Rattle.ast.specs.Records.{first_stmt, stmt_count}
use Rattle.ast.specs.Rows.{at_most}
use Rattle.ast.specs.Opens.{Open, file_in}
use Rattle.ast.specs.declared.sections.Sections.{Sections}
use Rattle.definitions.specs.Flatten.{model_at, stmt_models, submodels, instances}
use Rattle.builder.specs.Tables.{called_by}
use Rattle.builder.specs.Checking.{stmt_in}
use Rattle.builder.proofs.laws.Calling.{calls_none, calls_one}
use Rattle.builder.proofs.laws.Open.{model_record}
use Rattle.builder.proofs.laws.OpenRecords.{model_is}
use Rattle.definitions.proofs.ListLaws.{sum_append}

-- ---- counts with a most

-- what is left of the most goes to the next
pub at_most_add : (most a b x y : ℕ) → a ≡ at_most most x → b ≡ at_most (most - a) y → a + b ≡ at_most most (x + y)
unfolding at_most
at_most_add most a b x y e g = omega arith

-- ---- sums

module _ {A : Type 0} where
  -- over the elements before place i
  pub sum_none : (g : A → ℕ) (xs : List A) → sum_of g (take 0 xs) ≡ 0
  unfolding sum_of
  sum_none g xs = refl

  pub sum_next : (g : A → ℕ) (xs : List A) (i : ℕ) (d : A) → i < length xs → sum_of g (take (i + 1) xs) ≡ sum_of g (take i xs) + g (get_or xs i d)
  unfolding sum_of
  sum_next g xs i d h = rw (add-one, take-suc xs i d) (sum_append g (take i xs) (get_or xs i d ∷ []) ∙ omega arith)

sum_each : {A B : Type 0} (g : B → ℕ) (h : A → List B) (xs : List A) → sum_of g (each h xs) ≡ sum_of (λ x. sum_of g (h x)) xs
unfolding sum_of each
sum_each g h [] = refl
sum_each g h (x ∷ xs) = sum_append g (h x) (each h xs) ∙ ap (λ (n : ℕ). sum_of g (h x) + n) (sum_each g h xs)

-- ---- instances, to a depth of k models

module _ (f : File) where
  -- those of the model that a statement calls
  abbrev pub called_instances : ℕ → Stmt → ℕ
  called_instances k q = sum_of (λ j. instances f k j) (stmt_models f q)

  pub called_none : (k : ℕ) (q : Stmt) → called_by f q ≡ none → 0 ≡ called_instances k q
  unfolding sum_of
  called_none k q e = sym (ap (λ (js : List ℕ). sum_of (λ j. instances f k j) js) (calls_none f q e))

  pub called_one : (k : ℕ) (q : Stmt) (c : ℕ) → called_by f q ≡ some c → called_instances k q ≡ instances f k c
  unfolding sum_of
  called_one k q c e = ap (λ (js : List ℕ). sum_of (λ j. instances f k j) js) (calls_one f q c e) ∙ omega arith

  pub instances_zero : (k m : ℕ) → k ≡ 0 → 0 ≡ instances f k m
  unfolding instances
  instances_zero zero m e = refl
  instances_zero (suc k) m e = absurd (omega arith)

  pub instances_more : (k m : ℕ) → (k ≡ 0 → ⊥) → instances f k m ≡ 1 + sum_of (called_instances (k - 1)) (model_at f m).stmts
  unfolding instances submodels
  instances_more zero m n = absurd (n refl)
  instances_more (suc k) m n = rw (sub-one (suc k)) (ap (λ (z : ℕ). 1 + z) (sum_each (λ j. instances f k j) (stmt_models f) (model_at f m).stmts))

-- ---- sums over the statements of model m of an open file

module _ (f : List ℕ) (s : Sections) (o : Open f s) (m : ℕ) (h : m < s.counts.models) (g : Stmt → ℕ) where
  -- before statement i of the model
  abbrev pub before : ℕ → ℕ
  before i = sum_of g (take i (model_at (file_in f s) m).stmts)

  pub run_next : (i q : ℕ) → q ≡ first_stmt (model_record f s m) + i → i < stmt_count (model_record f s m) → before (i + 1) ≡ before i + g (stmt_in f s q)
  run_next i q eq l =
      let d = stmt_in f s q in
      let w : i < length (model_at (file_in f s) m).stmts = omega (arith, (model_is f s o m h).stmts_long) in
      sum_next g (model_at (file_in f s) m).stmts i d w ∙ ap (λ (q : Stmt). before i + g q) ((model_is f s o m h).stmt i d l ∙ ap (stmt_in f s) (sym eq))

  pub run_end : (i : ℕ) → stmt_count (model_record f s m) ≤ i → before i ≡ sum_of g (model_at (file_in f s) m).stmts
  run_end i l = ap (sum_of g) (take_all i (model_at (file_in f s) m).stmts (omega (arith, (model_is f s o m h).stmts_long)))
