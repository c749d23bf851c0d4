-- Which variables reach t, by the records of an area's variables and the dependents behind them.
use Rattle.std.specs.Prelude.{ℕ, suc, ◌+◌, ◌*◌, ◌≤◌, ◌<◌, ◌≡◌, Bool, true, false, ◌||◌, List, [], ◌∷◌, eqb, ltb, length, take, drop, get_or, set}
use Rattle.functions.specs.Lists.{any, all, reaches, flag}
use Rattle.ast.specs.Words.{words}
use Rattle.area.specs.Fields.{var_first_dep, var_deps, var_timed}
use Rattle.area.specs.Sections.{Small, deps_at, area_vars, column}
use Rattle.area.specs.declared.sections.Sizes.{Sizes}

module _ (b : List ℕ) (z : Sizes) where
  -- the dependents of variable v, from the first on that its record tells
  unfoldable pub deps_in : ℕ → List ℕ
  deps_in v = take (get_or (column var_deps (area_vars b z)) v 0) (drop (get_or (column var_first_dep (area_vars b z)) v 0) (take z.deps (words (drop (deps_at z) b))))

  -- 1 for each variable that its record marks as time-dependent
  abbrev pub marks_in : List ℕ
  marks_in = column var_timed (area_vars b z)

  -- t, and each variable from which t is reached by at most k steps
  unfoldable pub timed_by : ℕ → ℕ → Bool
  timed_by k v = eqb v 0 || reaches deps_in k v 0

-- a step to a variable that is marked
unfoldable pub leads : List ℕ → ℕ → Bool
leads marks d = eqb (get_or marks d 0) 1

-- An area in which each variable's dependents are there, and are variables.
pub record DepsIn (z : Sizes) (b : List ℕ) : Type 0 where
  pub small : Small z
  pub long : deps_at z + 4 * z.deps ≤ length b
  pub within : (v : ℕ) → v < z.vars → get_or (column var_first_dep (area_vars b z)) v 0 + get_or (column var_deps (area_vars b z)) v 0 ≤ z.deps
  pub below : (v : ℕ) → v < z.vars → all (λ d. ltb d z.vars) (deps_in b z v) ≡ true

-- The next round of marks: t, and each variable from which a step leads to one that is marked.
pub record Round (z : Sizes) (b : List ℕ) (new : List Bool) : Type 0 where
  pub mark : (v : ℕ) → v < z.vars → get_or new v false ≡ (eqb v 0 || any (leads (marks_in b z)) (deps_in b z v))

-- Records from number v on with the marks of time-dependence, word 7, that a test gives.
unfoldable pub timed_from : (ℕ → Bool) → ℕ → List (List ℕ) → List (List ℕ)
timed_from timed v [] = []
timed_from timed v (r ∷ rs) = set r var_timed (flag (timed v)) ∷ timed_from timed (suc v) rs
