-- The dependents of a root's variables: those of the definitions' variables are those that are kept.
use mathlib.Core.Path.{◌≡◌, refl, ap, ◌∙◌}
use mathlib.Core.List.{List, [], ◌∷◌, ◌++◌, map}
use Prim.Native.Nat.{ℕ, zero, suc}
use lib.ListN.{length, take}
use Rattle.functions.specs.Lists.{each}
use Rattle.ast.specs.Opens.{file_in}
use Rattle.ast.specs.declared.sections.Sections.{Sections}
use Rattle.definitions.specs.Variables.{Variable, kept_deps, variable_names, variable, variables_of}
use Rattle.definitions.specs.Flatten.{model_at, scope_of}
use Rattle.builder.specs.VariableTables.{unknowns_in, roster_in}
use Rattle.builder.specs.Root.{scope_at}
use Rattle.builder.proofs.laws.KeptDependents.{count_variables}

-- ---- dependents of the definitions' variables

module _ (g : ℕ → Variable) (k : ℕ → List ℕ) (e : (y : ℕ) → (g y).deps ≡ k y) where
  -- of the first v of them
  deps_taken : (v : ℕ) (xs : List ℕ) → each (λ (y : Variable). y.deps) (take v (map g xs)) ≡ each k (take v xs)
  unfolding each
  deps_taken zero xs = refl
  deps_taken (suc v) [] = refl
  deps_taken (suc v) (x ∷ xs) =
      ap (λ (l : List ℕ). l ++ each (λ (y : Variable). y.deps) (take v (map g xs))) (e x) ∙ ap (λ (l : List ℕ). k x ++ l) (deps_taken v xs)

  -- of all
  deps_mapped : (xs : List ℕ) → each (λ (y : Variable). y.deps) (map g xs) ≡ each k xs
  unfolding each
  deps_mapped [] = refl
  deps_mapped (x ∷ xs) =
      ap (λ (l : List ℕ). l ++ each (λ (y : Variable). y.deps) (map g xs)) (e x) ∙ ap (λ (l : List ℕ). k x ++ l) (deps_mapped xs)

-- ---- in an open file's model

module _ (f : List ℕ) (s : Sections) (m : ℕ) where
  -- its variables' dependents are those that are kept
  pub model_written : each (λ (x : Variable). x.deps) (scope_at (file_in f s) m).vars ≡ each (kept_deps (roster_in f s m) (unknowns_in f s m)) (roster_in f s m)
  unfolding scope_of variables_of variable roster_in unknowns_in
  model_written =
      let us = (model_at (file_in f s) m).unknowns in
      let vs = variable_names (file_in f s).names us in
      deps_mapped (variable (file_in f s).names vs us) (kept_deps vs us) (λ y. refl) vs

  -- the variables of its scope
  vars_are : (scope_at (file_in f s) m).vars ≡ variables_of (file_in f s).names (unknowns_in f s m)
  unfolding scope_of unknowns_in
  vars_are = refl

  pub vars_count : length (scope_at (file_in f s) m).vars ≡ length (roster_in f s m)
  unfolding roster_in
  vars_count = ap length vars_are ∙ count_variables (file_in f s).names (unknowns_in f s m)
