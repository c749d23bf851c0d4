-- What is known of a root model and its area: the area's tables are those of its scope and of time's bounds, and t's name stands first.
use mathlib.Core.Path.{◌≡◌, refl, sym, ap, ◌∙◌}
use mathlib.Core.Bool.{◌&&◌}
use mathlib.Core.List.{List, [], ◌∷◌, map}
use Prim.Native.Nat.{ℕ, suc, ◌≤◌, ◌<◌}
use native.Mathlib.Omega.{arith}
use lib.Dec.{eqb}
use lib.ListN.{length, get_or}
use lib.Ieee.{Float}
use Rattle.ast.specs.Numbers as floating
use Rattle.functions.specs.Lists.{place, plus_one, flag}
use Rattle.ast.specs.Words.{word_of}
use Rattle.ast.specs.Opens.{file_in}
use Rattle.ast.specs.declared.sections.Sections.{Sections}
use Rattle.definitions.specs.Names.{time_name}
use Rattle.definitions.specs.Variables.{from_zero, last_bounds, variable_names, number_of, variable, variables_of, at, no_variable, is_state}
use Rattle.definitions.specs.Check.{lookup}
use Rattle.definitions.specs.Flatten.{model_at, scope_of}
use Rattle.definitions.specs.Roles.{takes_rate}
use Rattle.area.specs.Sections.{stmts_at, vars_at, deps_at, area_vars, column}
use Rattle.builder.specs.VariableTables.{unknowns_in, roster_in}
use Rattle.builder.specs.Allocating.{names_in, states_in, indexes_in, rates_in, Numbered, Agree}
use Rattle.builder.specs.Root.{scope_at, time_at, Known, PartsLaid}
use Rattle.area.specs.declared.sections.Sizes.{Sizes}
use Rattle.builder.proofs.laws.Open.{names_long}
use Rattle.builder.proofs.laws.VarAnswers.{names_first, time_last}
use Rattle.builder.proofs.laws.VarColumns.{Columns}
use Rattle.builder.proofs.laws.FateLaws.{Beginning}
use Rattle.builder.proofs.laws.FlatsBack.{vars_read}
use Rattle.builder.proofs.laws.RootTables.{vars_count}
use Rattle.definitions.proofs.ListLaws.{place_map, place_small, flag_one}

-- ---- places

number_most : (vs : List ℕ) (n : ℕ) → plus_one (number_of vs n) ≤ length vs
unfolding number_of place
number_most vs n = omega (arith, place_small (eqb (suc n)) 0 vs)

-- ---- of a root model

module _ (f : List ℕ) (s : Sections) (m : ℕ) where
  -- the variable of a name in its scope
  scope_number : (n : ℕ) → lookup (scope_at (file_in f s) m) n ≡ number_of (roster_in f s m) n
  unfolding lookup scope_of variables_of number_of place variable roster_in unknowns_in
  scope_number n =
      let us = (model_at (file_in f s) m).unknowns in
      let vs = variable_names (file_in f s).names us in
      place_map (variable (file_in f s).names vs us) _ 0 vs

  -- the names of its scope
  pub scope_names : length (scope_at (file_in f s) m).names ≡ s.counts.names
  unfolding scope_of
  scope_names = names_long f s

  -- the name of t stands first
  first_name : (0 < length (scope_at (file_in f s) m).vars) × ((at (scope_at (file_in f s) m).vars 0).name ≡ time_name (file_in f s).names)
  unfolding at scope_of variables_of variable roster_in unknowns_in
  first_name =
      let us = (model_at (file_in f s) m).unknowns in
      let vs = variable_names (file_in f s).names us in
      let t = names_first (file_in f s).names us in
      (omega (arith, vars_count f s m, t.some), named vs t.some ∙ t.first)
    where
      named : (vs : List ℕ) → 0 < length vs → (get_or (map (variable (file_in f s).names (variable_names (file_in f s).names (model_at (file_in f s) m).unknowns) (model_at (file_in f s) m).unknowns) vs) 0 no_variable).name ≡ get_or vs 0 0
      named [] l = absurd (omega arith)
      named (x ∷ vs) l = refl

module _ {f : List ℕ} {s : Sections} {m : ℕ} {numbers : List ℕ} {z : Sizes} (k : Known f s m numbers z)
    {rs ws : List (List ℕ)} {b : List ℕ} (a : PartsLaid (file_in f s) m z rs ws b) (w : Columns (scope_at (file_in f s) m).vars ws) where
  -- the variables' records
  pub read : area_vars b z ≡ ws
  read = vars_read (file_in f s) m z rs ws b k.sizes a (omega (arith, w.many, k.sizes.vars)) w.wide

  pub name_at_lem : (v : ℕ) → v < length (scope_at (file_in f s) m).vars → get_or (names_in b z) v 0 ≡ (at (scope_at (file_in f s) m).vars v).name
  name_at_lem v l = ap (λ (xs : List (List ℕ)). get_or (column 0 xs) v 0) read ∙ w.name v l

  -- which are states
  pub begins : Beginning (scope_at (file_in f s) m).vars (states_in b z)
  begins = record { states = λ v l. ap (λ (xs : List (List ℕ)). eqb (get_or (column 1 xs) v 0) 1) read ∙ ap (λ (n : ℕ). eqb n 1) (w.state v l) ∙ flag_one (is_state (at (scope_at (file_in f s) m).vars v)) }

  -- The area's tables are those of the scope and of time's bounds.
  pub agree : (lower : Float) → lower ≡ floating.number_of (time_at (file_in f s) m).lower → Agree (scope_at (file_in f s) m) (time_at (file_in f s) m) numbers (indexes_in b z) (rates_in b z) lower
  unfolding rates_in takes_rate
  agree lower e =
      record {
        number = λ n h. k.numbered.number n (omega (arith, scope_names f s m, k.is_open.laid.within.names)) ∙ ap plus_one (sym (scope_number f s m n));
        index = λ v l. ap (λ (xs : List (List ℕ)). get_or (column 2 xs) v 0) read ∙ w.index v l;
        rate = λ v l. ap (λ (xs : List (List ℕ)). get_or (map (λ r. flag (eqb (word_of r 1) 1 && eqb (word_of r 7) 1)) xs) v 0) read ∙ w.rate v l;
        low = e;
      }

  -- there is room for the variables
  pub vars_room : deps_at z ≤ length b
  unfolding deps_at vars_at stmts_at
  vars_room = omega (arith, a.long, k.sizes.small.nodes, k.sizes.small.stmts, k.sizes.small.vars)

  -- The table of numbers is long enough, and each number is a variable's.
  pub numbered : Numbered b z numbers
  numbered =
      record {
        names = omega (arith, k.numbers_long);
        vars = vars_room;
        entries = λ n h. omega (arith, k.numbered.number n h, number_most (roster_in f s m) n, k.sizes.vars, vars_count f s m);
      }

  -- There is t, and the bounds declared last for its name are time's.
  pub some_var : 0 < z.vars
  some_var = omega (arith, (first_name f s m).0, k.sizes.vars)

  pub first_bounds : last_bounds (file_in f s).names (get_or (names_in b z) 0 0) from_zero (model_at (file_in f s) m).unknowns ≡ time_at (file_in f s) m
  first_bounds =
      ap (λ (n : ℕ). last_bounds (file_in f s).names n from_zero (model_at (file_in f s) m).unknowns) (name_at_lem 0 (first_name f s m).0 ∙ (first_name f s m).1)
      ∙ time_last (file_in f s).names (model_at (file_in f s) m).unknowns
