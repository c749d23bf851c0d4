-- What is meant where Flatten and Variables count: `reaches` takes at most so many steps, `flatten`, `errors_of` and `instances` go so many levels down.
-- Here nothing is counted. A route has any length, and what goes down into submodels goes down to the last.
use Rattle.std.specs.Prelude.{◌≡◌, ◌↔◌, ◌⊎◌, ℕ, ◌+◌, ◌≤◌, true, List, ◌++◌, length}
use Rattle.std.proofs.Math.Option.{some}
use Rattle.functions.specs.Lists.{any, each, member, sum_of}
use Rattle.ast.specs.Tree.{Flat, File}
use Rattle.ast.specs.File.{open_file, opened}
use Rattle.definitions.specs.Variables.{Error, Variable, unknown_errors, at, time_dependent}
use Rattle.definitions.specs.Flatten.{model_at, scope_of, stmt_flats, stmt_errors, submodels, flatten, errors_of, instances, cyclic, lists_itself, self_listed, stmt_beyond, overfull}
use Rattle.definitions.specs.Answer.{Answer}
use Rattle.definitions.specs.Build.{root_of}

-- ---- reaching

-- b is reached from a, in one step or more: a step leads from a number to any that `next` lists for it.
pub data Route (next : ℕ → List ℕ) : ℕ → ℕ → Type 0 where
  step : {a b : ℕ} → member b (next a) ≡ true → Route next a b
  further : {a b : ℕ} (m : ℕ) → member m (next a) ≡ true → Route next m b → Route next a b

-- "Time-dependent: is t, or reaches t through dependents." Variable 0 is t.
abbrev pub ReachesTime : List Variable → ℕ → Type 0
ReachesTime vs i = (i ≡ 0) ⊎ Route (λ j. (at vs j).deps) i 0

-- "Among models reached from the root": m is the root, or reached from it.
abbrev pub From : File → ℕ → ℕ → Type 0
From f root m = (m ≡ root) ⊎ Route (submodels f) root m

-- One of these is so.
abbrev pub SomeFrom : File → ℕ → (ℕ → Type 0) → Type 0
SomeFrom f root P = (m : ℕ) × From f root m × P m

-- What the model author can be turned away for holds "among models reached from the root", and "at no other time".
pub record Refusals (f : File) (root : ℕ) : Type 0 where
  -- "6: a model is reached from itself";
  pub cycle : (cyclic f root ≡ true) ↔ SomeFrom f root (λ m. Route (submodels f) m m)
  -- "7: an unknown that is t or unreserved lists itself";
  pub listing : (self_listed f root ≡ true) ↔ SomeFrom f root (λ m. any (lists_itself f) (model_at f m).unknowns ≡ true)
  -- "8: a submodel statement whose model is found has a positional argument whose number isn't below that model's count of declared unknowns".
  pub beyond : (overfull f root ≡ true) ↔ SomeFrom f root (λ m. any (stmt_beyond f) (model_at f m).stmts ≡ true)

-- ---- going down into submodels

-- A recursive definition without a count: `made g m` is one level, what is asked of model m where g tells the same of its submodels' models.
-- That g is made so means: at the root and at every model reached from it, it is one level of itself.
abbrev pub MadeSo : {A : Type 0} → File → ℕ → ((ℕ → A) → ℕ → A) → (ℕ → A) → Type 0
MadeSo f root made g = (m : ℕ) → From f root m → g m ≡ made g m

-- `to k m` goes k levels down from model m.
pub record Recursive {A : Type 0} (f : File) (root : ℕ) (made : (ℕ → A) → ℕ → A) (to : ℕ → ℕ → A) : Type 0 where
  -- With as many levels as there are models it is made so,
  pub made_so : MadeSo f root made (to (length f.models))
  -- whatever is made so is equal to it,
  pub only : (g : ℕ → A) → MadeSo f root made g → (m : ℕ) → From f root m → g m ≡ to (length f.models) m
  -- and more levels change nothing.
  pub enough : (k : ℕ) → length f.models ≤ k → (m : ℕ) → From f root m → to k m ≡ to (length f.models) m

-- One level of each; `sub` tells the same of a submodel's model.
module _ (f : File) where
  -- "Submodel: in place of its statement, its own flattened statements come in with replacements applied."
  abbrev pub flatten_by : (ℕ → List Flat) → ℕ → List Flat
  flatten_by sub m = each (stmt_flats f sub) (model_at f m).stmts

  -- "Order as in the Rust": those of its unknowns, then those of its statements, a submodel's model's among them.
  abbrev pub errors_by : (ℕ → List Error) → ℕ → List Error
  errors_by sub m = each (unknown_errors f.names) (model_at f m).unknowns ++ each (stmt_errors f sub (scope_of f (model_at f m))) (model_at f m).stmts

  -- "Instances: 1 for the root plus those of each submodel statement whose model is found."
  abbrev pub instances_by : (ℕ → ℕ) → ℕ → ℕ
  instances_by sub m = 1 + sum_of sub (submodels f m)

-- "Equal to the recursive definition": flattened statements, errors and instances.
pub record Meaning (f : File) (root : ℕ) : Type 0 where
  pub flattened : Recursive f root (flatten_by f) (flatten f)
  pub erring : Recursive f root (errors_by f) (errors_of f)
  pub instanced : Recursive f root (instances_by f) (instances f)

-- ---- of an accepted answer

-- What all that says of the answer of a tree file and a root name.
pub record Meant (file root : List ℕ) (a : Answer) : Type 0 where
  pub tree : File
  pub model : ℕ
  pub is_open : open_file file ≡ opened tree
  pub is_root : root_of tree root ≡ some model
  -- No model is reached from itself, "among models reached from the root".
  pub no_cycle : SomeFrom tree model (λ m. Route (submodels tree) m m) → ⊥
  pub meaning : Meaning tree model
  -- Its flattened statements, the errors of building it, which come first, and its instances are those of the recursive definitions.
  pub stmts_are : a.stmts ≡ flatten tree (length tree.models) model
  pub later : List Error
  pub errors_are : a.errors ≡ errors_of tree (length tree.models) model ++ later
  pub instances_are : a.instances ≡ instances tree (length tree.models) model
  -- "Time-dependent: is t, or reaches t through dependents."
  pub depends_on_time : (i : ℕ) → (time_dependent a.vars i ≡ true) ↔ ReachesTime a.vars i
