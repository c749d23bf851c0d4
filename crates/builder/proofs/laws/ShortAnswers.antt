-- The answer of a root model whose statements are laid in an area: refusal 10, or the rest is written.
use mathlib.Core.Path.{◌≡◌, refl, sym, ap, ◌∙◌}
use mathlib.Core.Bool.{Bool, true, false, cond}
use mathlib.Core.List.{List}
use Prim.Native.Nat.{ℕ, ◌≤◌, ◌<◌}
use native.Mathlib.Omega.{arith}
use lib.ListN.{length, take, get_or}
use Rattle.functions.specs.Lists.{any}
use Rattle.ast.specs.Numbers.{number_of}
use Rattle.ast.specs.Opens.{file_in}
use Rattle.ast.specs.declared.numbers.Bounds as declared
use Rattle.ast.specs.declared.sections.Sections.{Sections}
use Rattle.definitions.specs.Numbers.{short_left_side}
use Rattle.definitions.specs.Variables.{from_zero, last_bounds}
use Rattle.definitions.specs.Flatten.{model_at}
use Rattle.definitions.specs.Answer.{Answer, answer_bytes}
use Rattle.definitions.specs.Roles.{too_short}
use Rattle.definitions.specs.Build.{Result, refusal, accepted, any_short}
use Rattle.area.specs.Sections.{Small, deps_at}
use Rattle.builder.specs.Bounding.{Floating}
use Rattle.builder.specs.VarRecords.{unheld_records}
use Rattle.builder.specs.Allocating.{names_in, indexes_in, rates_in, flats_in, Flattened, short_by}
use Rattle.builder.specs.Root.{flats_of, scope_at, time_at, answer_at, Known, Unfated, answered_as, used_in, bytes_in}
use Rattle.area.specs.declared.sections.Sizes.{Sizes}
use Rattle.std.specs.Prelude.{Ok, Err}
use Rattle.builder.specs.declared.refusal.Refusal.TheVariants.{ShortLeftSide}
use Rattle.builder.proofs.laws.Allocations.{shorts_same}
use Rattle.builder.proofs.laws.FlatsBack.{unfated_flats, unfated_flattened}
use Rattle.builder.proofs.laws.RootShort.{scope_names, agree, vars_room, some_var, first_bounds}
use Rattle.builder.proofs.laws.VarColumns.{Columns, unheld_columns}

-- ---- refusal 10, or the bytes used

-- what is answered of a model, by whether a left side is too short
abbrev answer_by : Bool → Answer → Result (List ℕ)
answer_by short a = bytes_in (cond short (refusal short_left_side) (accepted a))

given_short : (short : Bool) (a : Answer) (d : List ℕ) → short ≡ true → (answered_as (Err ShortLeftSide) d ≡ answer_by short a) × (used_in (Err ShortLeftSide) ≤ 55384)
unfolding answered_as used_in bytes_in
given_short short a d e = (rw e refl, omega arith)

given_used : (short : Bool) (a : Answer) (d : List ℕ) (u : ℕ) → short ≡ false → take u d ≡ answer_bytes a → u ≤ 55384 → (answered_as (Ok u) d ≡ answer_by short a) × (used_in (Ok u) ≤ 55384)
unfolding answered_as used_in bytes_in
given_used short a d u e g h = (rw (e, g) refl, h)

module _ {f : List ℕ} {s : Sections} {m : ℕ} {numbers : List ℕ} {z : Sizes} (k : Known f s m numbers z) {b : List ℕ} (a : Unfated (file_in f s) m z b) where
  unheld : Columns (scope_at (file_in f s) m).vars (unheld_records (scope_at (file_in f s) m).vars)
  unheld = unheld_columns (scope_at (file_in f s) m).vars

  -- there is t,
  pub some_variable : Small z × (deps_at z ≤ length b) × (0 < z.vars)
  some_variable = (k.sizes.small, vars_room k a unheld, some_var k a unheld)

  -- and time's bounds in floats are those declared last for its name
  pub timed : {n : ℕ} {x : declared.Bounds} → n ≡ get_or (names_in b z) 0 0 → Floating (last_bounds (file_in f s).names n from_zero (model_at (file_in f s) m).unknowns) x → Floating (time_at (file_in f s) m) x
  timed e h = rw (e, first_bounds k a unheld) at h

  -- whether a left side is too short
  laid_short : any (short_by numbers (indexes_in b z)) (flats_in b z) ≡ any_short (scope_at (file_in f s) m) (flats_of (file_in f s) m)
  unfolding any_short
  laid_short =
      let c = scope_at (file_in f s) m in
      let t = time_at (file_in f s) m in
      let fl : Flattened (length c.names) b z = rw (scope_names f s m) (unfated_flattened f s m z _ b k.is_open k.sizes a) in
      shorts_same c t numbers (indexes_in b z) (rates_in b z) (number_of t.lower) (agree k a unheld (number_of t.lower) refl) b z fl
      ∙ ap (any (too_short c)) (unfated_flats f s m z _ b k.is_open k.sizes a)

  module _ {r : Bool} (g : r ≡ any (short_by numbers (indexes_in b z)) (flats_in b z)) where
    is_short_lem : any_short (scope_at (file_in f s) m) (flats_of (file_in f s) m) ≡ r
    is_short_lem = sym laid_short ∙ sym g

    -- what is answered
    pub short_given : r ≡ true → (d : List ℕ)
        → (answered_as (Err ShortLeftSide) d ≡ bytes_in (cond (any_short (scope_at (file_in f s) m) (flats_of (file_in f s) m)) (refusal short_left_side) (accepted (answer_at (file_in f s) m)))) × (used_in (Err ShortLeftSide) ≤ 55384)
    short_given h d = given_short (any_short (scope_at (file_in f s) m) (flats_of (file_in f s) m)) (answer_at (file_in f s) m) d (is_short_lem ∙ h)

    pub used_given : r ≡ false → (d : List ℕ) {u : ℕ} → (take u d ≡ answer_bytes (answer_at (file_in f s) m)) × (u ≤ 55384)
        → (answered_as (Ok u) d ≡ bytes_in (cond (any_short (scope_at (file_in f s) m) (flats_of (file_in f s) m)) (refusal short_left_side) (accepted (answer_at (file_in f s) m)))) × (used_in (Ok u) ≤ 55384)
    used_given h d {u} p = given_used (any_short (scope_at (file_in f s) m) (flats_of (file_in f s) m)) (answer_at (file_in f s) m) d u (is_short_lem ∙ h) p.0 p.1
