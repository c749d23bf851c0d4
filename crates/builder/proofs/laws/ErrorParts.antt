-- All errors of an answer, part by part: of building the model, of the statements' roles, of the counts, of the initial conditions.
use mathlib.Core.Path.{◌≡◌, refl, ◌∙◌}
use mathlib.Core.List.{List, [], ◌∷◌}
use Prim.Native.Nat.{ℕ, ◌+◌, ◌^◌, ◌≤◌, ◌<◌}
use native.Mathlib.Omega.{arith}
use lib.ListN.{length, length-append}
use lib.Ieee.{Float}
use Rattle.functions.specs.Lists.{each}
use Rattle.ast.specs.Tree.{Flat}
use Rattle.ast.specs.Opens.{file_in}
use Rattle.ast.specs.declared.sections.Sections.{Sections}
use Rattle.definitions.specs.Variables.{Error}
use Rattle.definitions.specs.Flatten.{model_at, errors_of}
use Rattle.definitions.specs.Allocate.{count_errors}
use Rattle.area.specs.Sections.{area_nodes, area_stmts}
use Rattle.area.specs.Listing.{Lists}
use Rattle.area.specs.LentList.{Listed}
use Rattle.area.specs.declared.errors.Errors.{Errors}
use Rattle.area.specs.declared.sections.Sizes.{Sizes}
use Rattle.area.proofs.Listings.{lists_then}
use Rattle.builder.specs.Allocating.{flats_in, role_errors_by, names_in, indexes_in, rates_in}
use Rattle.builder.specs.Starting.{starting_in}
use Rattle.builder.specs.Root.{errors_by, Erring}
use Rattle.definitions.proofs.ErrorCount.{length_counts}
use Rattle.builder.proofs.laws.Flats.{flats_count}
use Rattle.builder.proofs.laws.RoleErrors.{errors_few}

-- ---- the roles' errors: at most one a statement

few_roles : (numbers indexes rates : List ℕ) (lower : Float) (qs : List Flat) → length (each (role_errors_by numbers indexes rates lower) qs) ≤ length qs
unfolding each
few_roles numbers indexes rates lower [] = omega arith
few_roles numbers indexes rates lower (q ∷ qs) = rw length-append (omega (arith, errors_few numbers indexes rates lower q, few_roles numbers indexes rates lower qs))

-- ---- the parts, one behind the other

-- where the model is built
module _ {f : List ℕ} {s : Sections} {b numbers : List ℕ} {m : ℕ} {z : Sizes} (w : Erring f s b numbers m z) (d d₁ : List ℕ) (n built : ℕ) (none : n ≡ 0)
    (p : Lists d n (errors_of (file_in f s) (length (file_in f s).models) m) built d₁) (lower : Float) where
  -- the roles have at most as many errors as there are statements
  roles_most : length (each (role_errors_by numbers (indexes_in b z) (rates_in b z) lower) (flats_in b z)) ≤ z.stmts
  roles_most = omega (arith, few_roles numbers (indexes_in b z) (rates_in b z) lower (flats_in b z), flats_count b z)

  -- the errors of the roles can be counted
  pub roles_room : built + length (each (role_errors_by numbers (indexes_in b z) (rates_in b z) lower) (flats_in b z)) < 2 ^ 40
  roles_room = omega (arith, p.0, w.few, roles_most, w.righted.small.stmts)

  -- where roles are stated
  module _ (d₂ : List ℕ) (stated : ℕ) (q : Lists d₁ built (each (role_errors_by numbers (indexes_in b z) (rates_in b z) lower) (flats_in b z)) stated d₂) where
    -- so can one of the counts
    pub count_room : stated < 2 ^ 40
    count_room = omega (arith, p.0, q.0, w.few, roles_most, w.righted.small.stmts)

    -- where statements and states are counted
    module _ (left states counted : ℕ) (es : List Error) (d₃ : List ℕ) (e : es ≡ count_errors (model_at (file_in f s) m).span left states) (c : Lists d₂ stated es counted d₃) where
      -- and one of each variable
      pub starting_room : counted + z.vars < 2 ^ 40
      starting_room =
          let one : length es ≤ 1 = rw e (length_counts (model_at (file_in f s) m).span left states) in
          omega (arith, p.0, q.0, c.0, one, w.few, roles_most, w.righted.small.stmts, w.righted.small.vars)

      -- the four parts together
      pub all_listed : (d₄ : List ℕ) (r : ℕ) → Lists d₃ counted (starting_in (model_at (file_in f s) m).span (area_nodes b z) (area_stmts b z) (names_in b z) z.vars) r d₄
          → Lists d n (errors_by b z numbers lower (file_in f s) m left states) r d₄
      unfolding errors_by
      all_listed d₄ r t =
          let c' : Lists d₂ stated (count_errors (model_at (file_in f s) m).span left states) counted d₃ = rw e at c in
          let two = lists_then (record { is = refl }) d d₁ d₂ n built stated p q in
          let three = lists_then (record { is = refl }) d d₂ d₃ n stated counted two c' in
          lists_then (record { is = refl }) d d₃ d₄ n counted r three t

-- the same in lent bytes
module _ {f : List ℕ} {s : Sections} {b numbers : List ℕ} {m : ℕ} {z : Sizes} (w : Erring f s b numbers m z) {e₀ e₁ : Errors} (none : e₀.count ≡ 0)
    (p : Listed e₀ (errors_of (file_in f s) (length (file_in f s).models) m) e₁) (lower : Float) where
  pub roles_room_lent : e₁.count + length (each (role_errors_by numbers (indexes_in b z) (rates_in b z) lower) (flats_in b z)) < 2 ^ 40
  roles_room_lent = roles_room w _ _ _ _ none p.lists lower

  module _ {e₂ : Errors} (q : Listed e₁ (each (role_errors_by numbers (indexes_in b z) (rates_in b z) lower) (flats_in b z)) e₂) where
    pub count_room_lent : e₂.count < 2 ^ 40
    count_room_lent = count_room w _ _ _ _ none p.lists lower _ _ q.lists

    module _ (left states : ℕ) (es : List Error) {e₃ : Errors} (e : es ≡ count_errors (model_at (file_in f s) m).span left states) (c : Listed e₂ es e₃) where
      pub starting_room_lent : e₃.count + z.vars < 2 ^ 40
      starting_room_lent = starting_room w _ _ _ _ none p.lists lower _ _ q.lists left states _ es _ e c.lists

      pub all_listed_lent : {e₄ : Errors} → Listed e₃ (starting_in (model_at (file_in f s) m).span (area_nodes b z) (area_stmts b z) (names_in b z) z.vars) e₄
          → Listed e₀ (errors_by b z numbers lower (file_in f s) m left states) e₄
      all_listed_lent t = record { lists = all_listed w _ _ _ _ none p.lists lower _ _ q.lists left states _ es _ e c.lists _ _ t.lists; same = t.same ∙ c.same ∙ q.same ∙ p.same }
