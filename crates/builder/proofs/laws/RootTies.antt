-- What the code works out over the records of an area is what the definitions say: roles, fates, what the variables hold, and errors.
use mathlib.Core.Path.{◌≡◌, refl, sym, ap, ap₂, ◌∙◌}
use mathlib.Core.List.{List, [], ◌∷◌, map}
use Prim.Native.Nat.{ℕ, ◌+◌}
use native.Mathlib.Omega.{arith}
use lib.ListN.{length, take, get_or}
use lib.Ieee.{Float}
use Rattle.ast.specs.Numbers.{number_of}
use Rattle.functions.specs.Lists.{each}
use Rattle.ast.specs.Tree.{Flat, equation, rate, flat_size}
use Rattle.ast.specs.Opens.{file_in}
use Rattle.ast.specs.declared.sections.Sections.{Sections}
use Rattle.definitions.specs.Flatten.{model_at}
use Rattle.definitions.specs.Roles.{Role, role_of, role_errors}
use Rattle.definitions.specs.Allocate.{Fate, fates_of, paired_states, lacking, left_count, starting_errors}
use Rattle.definitions.specs.Answer.{flat_words, flat_records, variable_records}
use Rattle.definitions.specs.Build.{answer_from}
use Rattle.area.specs.Sections.{area_nodes, area_stmts, area_vars, column}
use Rattle.area.specs.declared.sections.Sizes.{Sizes}
use Rattle.builder.specs.Tables.{lacking_in}
use Rattle.builder.specs.Fating.{fate_pair}
use Rattle.builder.specs.Unfated.{unfated_words, unfated}
use Rattle.builder.specs.Fating as fating
use Rattle.builder.specs.Allocating.{flats_in, names_in, states_in, indexes_in, rates_in, role_errors_by, Flattened}
use Rattle.builder.specs.Starting.{starting_in, Righted}
use Rattle.builder.specs.VarRecords.{held_from}
use Rattle.builder.specs.Root.{flats_of, scope_at, time_at, roles_at, fates_at, answer_at, Known, Unfated, Fated, Held, roles_by, lacking_by, queue_by, fated_by, errors_by}
use Rattle.builder.proofs.laws.Allocations.{roles_same, all_errors_same}
use Rattle.builder.proofs.laws.FateLaws.{lacking_tabled, fated_flats, record_pair, held_in_lem, conditions_in}
use Rattle.builder.proofs.laws.FlatsBack.{nodes_read, unfated_stmts, fated_stmts, unfated_flats, unfated_flattened, fated_flats as fated-read, fated_flattened, fates_count, right_sides}
use Rattle.builder.proofs.laws.StartingTies.{records_pairs, starting_tie}
use Rattle.builder.proofs.laws.VarAnswers.{held_are}
use Rattle.builder.proofs.laws.VarColumns.{unheld_columns, held_columns, answer_held, answer_initial}
use Rattle.builder.proofs.laws.RootShort.{scope_names, read, name_at_lem, begins, agree, vars_room}

-- the words in front of the fate are the same before and after
six_words : (first : ℕ) (q : Flat) (x : Fate) → take 6 (unfated_words first q) ≡ take 6 (flat_words first q x)
unfolding unfated_words flat_words
six_words first (equation l r s) x = refl
six_words first (rate n r s) x = refl

same_six : (first : ℕ) (qs : List Flat) (fs : List Fate) → length fs ≡ length qs → map (take 6) (unfated first qs) ≡ map (take 6) (flat_records first qs fs)
unfolding unfated flat_records
same_six first [] fs h = refl
same_six first (q ∷ qs) [] h = absurd (omega arith)
same_six first (q ∷ qs) (x ∷ fs) h = ap₂ ◌∷◌ (six_words first q x) (same_six (first + flat_size q) qs fs (omega arith))

module _ {f : List ℕ} {s : Sections} {m : ℕ} {numbers : List ℕ} {z : Sizes} (k : Known f s m numbers z) where
  -- ---- before the fates are known

  module _ {lower : Float} (el : lower ≡ number_of (time_at (file_in f s) m).lower) {b : List ℕ} (u : Unfated (file_in f s) m z b) where
    formed : Flattened (length (scope_at (file_in f s) m).names) b z
    formed = rw (scope_names f s m) (unfated_flattened f s m z _ b k.is_open k.sizes u)

    roles_tie : roles_by b z numbers lower ≡ roles_at (file_in f s) m
    unfolding roles_by
    roles_tie =
        roles_same (scope_at (file_in f s) m) (time_at (file_in f s) m) numbers (indexes_in b z) (rates_in b z) lower (agree k u (unheld_columns (scope_at (file_in f s) m).vars) lower el) b z formed
        ∙ ap (map (role_of (scope_at (file_in f s) m) (time_at (file_in f s) m))) (unfated_flats f s m z _ b k.is_open k.sizes u)

    pub left_tie : left_count (roles_by b z numbers lower) ≡ left_count (roles_at (file_in f s) m)
    left_tie = ap left_count roles_tie

    lacking_tie : lacking_by b z numbers lower ≡ lacking (scope_at (file_in f s) m).vars (roles_at (file_in f s) m)
    unfolding lacking_by
    lacking_tie =
        ap₂ (λ (l : List Role) (n : ℕ). lacking_in l (states_in b z) n) roles_tie k.sizes.vars
        ∙ lacking_tabled (scope_at (file_in f s) m).vars (roles_at (file_in f s) m) (states_in b z) (begins k u (unheld_columns (scope_at (file_in f s) m).vars))

    pub states_tie : length (lacking_by b z numbers lower) ≡ length (lacking (scope_at (file_in f s) m).vars (roles_at (file_in f s) m))
    states_tie = ap length lacking_tie

    queue_tie : queue_by b z numbers lower ≡ paired_states (scope_at (file_in f s) m).vars (roles_at (file_in f s) m)
    unfolding queue_by paired_states
    queue_tie = rw (lacking_tie, roles_tie) refl

    -- the records with their fates
    pub fated_tie : fated_by b z numbers lower ≡ flat_records 0 (flats_of (file_in f s) m) (fates_at (file_in f s) m)
    unfolding fated_by
    fated_tie =
        let qs = flats_of (file_in f s) m in
        let fs = fates_at (file_in f s) m in
        let x : fates_of (queue_by b z numbers lower) (roles_by b z numbers lower) ≡ fs = ap₂ fates_of queue_tie roles_tie in
        ap₂ fating.fated (unfated_stmts (file_in f s) m z _ b k.sizes u) (ap (map fate_pair) x)
        ∙ fated_flats 0 (unfated 0 qs) qs fs (same_six 0 qs fs (fates_count (file_in f s) m)) (fates_count (file_in f s) m)

  -- ---- with the fates

  -- what the variables hold
  pub held_tie : {b : List ℕ} → Fated (file_in f s) m z b → held_from (area_stmts b z) 0 (area_vars b z) ≡ variable_records (answer_at (file_in f s) m) 0 0 (scope_at (file_in f s) m).vars
  unfolding answer_from
  held_tie {b} u =
      let vs = (scope_at (file_in f s) m).vars in
      ap (held_from (area_stmts b z) 0) (read k u (unheld_columns vs))
      ∙ held_are (answer_at (file_in f s) m) (area_stmts b z) vs refl
      (ap (map record_pair) (fated_stmts (file_in f s) m z _ b k.sizes u) ∙ records_pairs 0 (flats_of (file_in f s) m) (fates_at (file_in f s) m) (fates_count (file_in f s) m))

  -- ---- with what they hold

  -- right sides that are nodes, and records that say it
  pub righted : {b : List ℕ} → Held (file_in f s) m z b → Righted b z
  unfolding answer_from
  righted {b} u =
      let vs = (scope_at (file_in f s) m).vars in
      let fs = fates_at (file_in f s) m in
      let a = answer_at (file_in f s) m in
      let w = held_columns a vs refl in
      let e = read k u w in
      let p : map record_pair (area_stmts b z) ≡ map fate_pair fs =
      ap (map record_pair) (fated_stmts (file_in f s) m z _ b k.sizes u) ∙ records_pairs 0 (flats_of (file_in f s) m) fs (fates_count (file_in f s) m) in
      record {
        small = k.sizes.small;
        long = vars_room k u w;
        right = right_sides (file_in f s) m z _ b k.sizes u;
        held = λ v l. ap (λ (rs : List (List ℕ)). get_or (column 5 rs) v 0) e ∙ answer_held a vs v (omega (arith, k.sizes.vars)) ∙ sym (held_in_lem (area_stmts b z) fs p v);
        initial = λ v l. ap (λ (rs : List (List ℕ)). get_or (column 6 rs) v 0) e ∙ answer_initial a vs v (omega (arith, k.sizes.vars)) ∙ sym (conditions_in (area_stmts b z) fs p v);
      }

  module _ {b : List ℕ} (u : Held (file_in f s) m z b) {lower : Float} (el : lower ≡ number_of (time_at (file_in f s) m).lower) {left states : ℕ}
      (eq : left ≡ left_count (roles_at (file_in f s) m)) (es : states ≡ length (lacking (scope_at (file_in f s) m).vars (roles_at (file_in f s) m))) where
    formed_too : Flattened (length (scope_at (file_in f s) m).names) b z
    formed_too = rw (scope_names f s m) (fated_flattened f s m z _ b k.is_open k.sizes u)

    role_errors_tie : each (role_errors_by numbers (indexes_in b z) (rates_in b z) lower) (flats_in b z) ≡ each (role_errors (scope_at (file_in f s) m) (time_at (file_in f s) m)) (flats_of (file_in f s) m)
    unfolding answer_from
    role_errors_tie =
        all_errors_same (scope_at (file_in f s) m) (time_at (file_in f s) m) numbers (indexes_in b z) (rates_in b z) lower (agree k u (held_columns (answer_at (file_in f s) m) (scope_at (file_in f s) m).vars refl) lower el) b z formed_too
        ∙ ap (each (role_errors (scope_at (file_in f s) m) (time_at (file_in f s) m))) (fated-read f s m z _ b k.is_open k.sizes u)

    start_errors_tie : starting_in (model_at (file_in f s) m).span (area_nodes b z) (area_stmts b z) (names_in b z) z.vars ≡ starting_errors (model_at (file_in f s) m).span (scope_at (file_in f s) m).vars (flats_of (file_in f s) m) (fates_at (file_in f s) m)
    unfolding answer_from
    start_errors_tie =
        let rs = flat_records 0 (flats_of (file_in f s) m) (fates_at (file_in f s) m) in
        ap (λ (n : ℕ). starting_in (model_at (file_in f s) m).span (area_nodes b z) (area_stmts b z) (names_in b z) n) k.sizes.vars
        ∙ rw (nodes_read (file_in f s) m z rs _ b k.sizes u, fated_stmts (file_in f s) m z _ b k.sizes u)
        (starting_tie (model_at (file_in f s) m).span (scope_at (file_in f s) m).vars (flats_of (file_in f s) m) (fates_at (file_in f s) m) (fates_count (file_in f s) m) (names_in b z) (name_at_lem k u (held_columns (answer_at (file_in f s) m) (scope_at (file_in f s) m).vars refl)))

    -- all errors
    pub errors_tie : errors_by b z numbers lower (file_in f s) m left states ≡ (answer_at (file_in f s) m).errors
    unfolding errors_by answer_from
    errors_tie = rw (role_errors_tie, start_errors_tie, eq, es) refl
