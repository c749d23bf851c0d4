-- The variables' records and the header.
use Rattle.std.specs.Prelude.{◌≡◌, ℕ, suc, ◌+◌, ◌-◌, ◌^◌, ◌≤◌, ◌<◌, Bool, cond, List, [], ◌∷◌, ◌++◌, eqb, ltb, length, take, drop, get_or}
use Rattle.std.proofs.Math.Option.{none}
use Rattle.functions.specs.Lists.{flag, plus_one, place_from, place, times}
use Rattle.ast.specs.Tree.{Unknown}
use Rattle.ast.specs.Opens.{Open, file_in}
use Rattle.ast.specs.declared.sections.Sections.{Sections}
use Rattle.ast.specs.declared.numbers.Bounds as floats
use Rattle.area.specs.Fields.{var_held, var_initial, var_timed}
use Rattle.area.specs.Sections.{Small, deps_at, area_stmts, area_vars, column, VarsAre}
use Rattle.area.specs.declared.sections.Sizes.{Sizes}
use Rattle.definitions.specs.Numbers.{initial_fate, held_fate}
use Rattle.definitions.specs.Variables.{Variable, Bounds, from_zero, unbounded, last_bounds, last_time, is_state, time_index, time_dependent}
use Rattle.definitions.specs.Flatten.{model_at}
use Rattle.definitions.specs.Answer.{bounds_words}
use Rattle.builder.specs.Bounding.{Floating}
use Rattle.builder.specs.Fating.{is_fated}
use Rattle.builder.specs.declared.variables.records.Lead.{Lead}

-- the variable t
unfoldable pub is_time : ℕ → Bool
is_time v = eqb v 0

-- The words of a variable in front of its bounds, from `first` up to `end` being its dependents: it holds nothing yet.
unfoldable pub lead_words : ℕ → ℕ → ℕ → ℕ → Bool → List ℕ
lead_words name first end index time = name ∷ flag (ltb first end) ∷ index ∷ first ∷ (end - first) ∷ 0 ∷ 0 ∷ flag time ∷ []

-- A record's lead says these of variable v: `deps` are its dependents, from `first` up to `end` among all, and t alone is known to be time-dependent.
pub record LeadOf (l : Lead) (v name first end : ℕ) (deps : List ℕ) : Type 0 where
  pub name_of : l.name ≡ name
  pub first_of : l.first ≡ first
  pub end_of : l.end ≡ end
  pub index_of : l.index ≡ plus_one (last_time 0 none deps)
  pub time_of : l.time ≡ is_time v

-- The bounds of variable v, of a name: the variable t's are 0 and infinity.
unfoldable pub var_bounds : List (List ℕ) → List Unknown → ℕ → ℕ → Bounds
var_bounds texts us v name = cond (eqb v 0) from_zero (last_bounds texts name unbounded us)

-- ---- the answer's variables before it is known what they hold, time-dependent where `timed` says so

module _ (timed : ℕ → Bool) where
  unfoldable pub unheld_words : ℕ → ℕ → Variable → List ℕ
  unheld_words i first v =
      (v.name ∷ flag (is_state v) ∷ plus_one (time_index v) ∷ first ∷ length v.deps ∷ 0 ∷ 0 ∷ flag (timed i) ∷ [])
      ++ bounds_words v.bounds

  -- from variable i on, whose first dependent is `first`
  unfoldable pub unheld_from : ℕ → ℕ → List Variable → List (List ℕ)
  unheld_from i first [] = []
  unheld_from i first (v ∷ vs) = unheld_words i first v ∷ unheld_from (suc i) (first + length v.deps) vs

unfoldable pub unheld_records : List Variable → List (List ℕ)
unheld_records vs = unheld_from (time_dependent vs) 0 0 vs

-- before it is known which of them reach t: of t alone it is said that it is time-dependent
unfoldable pub untimed_records : List Variable → List (List ℕ)
untimed_records vs = unheld_from is_time 0 0 vs

-- ---- what a variable holds, in two words of its record

unfoldable pub with_held : List ℕ → ℕ × ℕ → List ℕ
with_held r x = take var_held r ++ (x.0 ∷ x.1 ∷ drop var_timed r)

-- By the statements' records `rs`: the statement that variable v holds plus 1 or 0, and how many initial conditions it has.
unfoldable pub held_in : List (List ℕ) → ℕ → ℕ × ℕ
held_in rs v = (plus_one (place (is_fated held_fate v) rs), times (is_fated initial_fate v) rs)

-- Of the variables' records from number v on.
unfoldable pub held_from : List (List ℕ) → ℕ → List (List ℕ) → List (List ℕ)
held_from rs v [] = []
held_from rs v (w ∷ ws) = with_held w (held_in rs v) ∷ held_from rs (suc v) ws

-- An area in which the variables' records hold nothing yet.
pub record NothingHeld (z : Sizes) (b : List ℕ) : Type 0 where
  pub small : Small z
  pub long : deps_at z ≤ length b
  pub held : (v : ℕ) → v < z.vars → get_or (column var_held (area_vars b z)) v 0 ≡ 0
  pub initial : (v : ℕ) → v < z.vars → get_or (column var_initial (area_vars b z)) v 0 ≡ 0

-- An area in which they hold what the statements from number i on give them.
pub record HeldBehind (z : Sizes) (i : ℕ) (b : List ℕ) : Type 0 where
  pub small : Small z
  pub long : deps_at z ≤ length b
  pub held : (v : ℕ) → v < z.vars → get_or (column var_held (area_vars b z)) v 0 ≡ plus_one (place_from i (is_fated held_fate v) (drop i (area_stmts b z)))
  pub initial : (v : ℕ) → v < z.vars → get_or (column var_initial (area_vars b z)) v 0 ≡ times (is_fated initial_fate v) (drop i (area_stmts b z))

-- The area b with other words of what the variables hold in their records, and all else as it was, is b'.
pub record HeldChanged (z : Sizes) (b b' : List ℕ) : Type 0 where
  pub changed : VarsAre z b (area_vars b' z) b'
  pub kept : (k : ℕ) → (k ≡ var_held → ⊥) → (k ≡ var_initial → ⊥) → column k (area_vars b' z) ≡ column k (area_vars b z)

-- What the header of an answer is written from: model m of an open file, an area with the records of its variables, the first of which is t, counts that
-- are words, and time's bounds as floats.
pub record Headed (f : List ℕ) (s : Sections) (m i errors : ℕ) (z : Sizes) (time : floats.Bounds) (b : List ℕ) : Type 0 where
  pub opened : Open f s
  pub model : m < s.counts.models
  pub small : Small z
  pub some : 0 < z.vars
  pub long : deps_at z ≤ length b
  pub counted : errors < 2 ^ 32
  pub instances : i < 2 ^ 32
  pub timed : Floating (last_bounds (file_in f s).names (get_or (column 0 (area_vars b z)) 0 0) from_zero (model_at (file_in f s) m).unknowns) time

-- The header of an answer of these sizes.
unfoldable pub head_words : Sizes → ℕ → ℕ → Bounds → List ℕ
head_words z errors instances b = (z.nodes ∷ z.stmts ∷ z.vars ∷ z.deps ∷ errors ∷ instances ∷ []) ++ bounds_words b
