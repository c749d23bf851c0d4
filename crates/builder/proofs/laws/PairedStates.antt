-- The states that the statements left are paired with, and the fates that follow, by the roles of an area's statements.
use mathlib.Core.Path.{◌≡◌, refl, sym, ap, ap₂, ◌∙◌}
use mathlib.Core.List.{List, [], map}
use Prim.Native.Nat.{ℕ, ◌≤◌}
use native.Mathlib.Omega.{arith}
use borrow.Author.Tests.{eq-eqb, ne_eqb}
use lib.ListN.{length}
use lib.Ieee.{Float}
use Rattle.ast.specs.Bytes.{put}
use Rattle.ast.specs.Encode.{encode}
use Rattle.area.specs.Sections.{stmts_at, vars_at, area_stmts}
use Rattle.area.specs.declared.sections.Sizes.{Sizes}
use Rattle.definitions.specs.Roles.{Role}
use Rattle.definitions.specs.Allocate.{left_count, fates_of}
use Rattle.builder.specs.Tables.{lacking_in}
use Rattle.builder.specs.Fating.{fate_pair, fated}
use Rattle.builder.specs.Allocating.{flats_in, states_in, indexes_in, rates_in, role_by, Flattened}
use Rattle.builder.specs.Root.{roles_by, lacking_by, queue_by, fated_by}

-- the area holds the statements' records
pub flattened_long : (names : ℕ) (b : List ℕ) (z : Sizes) → Flattened names b z → vars_at z ≤ length b
unfolding stmts_at vars_at
flattened_long names b z f = omega (arith, f.long)

module _ (b : List ℕ) (z : Sizes) (numbers : List ℕ) (lower : Float) (roles : List Role) (t : roles ≡ map (role_by numbers (indexes_in b z) (rates_in b z) lower) (flats_in b z)) where
  roles_are : roles ≡ roles_by b z numbers lower
  unfolding roles_by
  roles_are = t

  -- how many are left
  pub left_by : (left : ℕ) → left ≡ left_count roles → left ≡ left_count (roles_by b z numbers lower)
  left_by left e = e ∙ ap left_count roles_are

  module _ (states : List ℕ) (l : states ≡ lacking_in roles (states_in b z) z.vars) where
    lacking_are : states ≡ lacking_by b z numbers lower
    unfolding lacking_by
    lacking_are = l ∙ ap (λ (r : List Role). lacking_in r (states_in b z) z.vars) roles_are

    -- how many states lack an equation
    pub states_by : (count : ℕ) → count ≡ length states → count ≡ length (lacking_by b z numbers lower)
    states_by count n = n ∙ ap length lacking_are

    module _ (left count : ℕ) (e : left ≡ left_count roles) (n : count ≡ length states) where
      -- all are paired where as many statements are left
      pub all_paired : left ≡ count → states ≡ queue_by b z numbers lower
      unfolding queue_by
      all_paired g = let s = eq-eqb _ _ (sym (left_by left e) ∙ g ∙ states_by count n) in lacking_are ∙ rw s refl

      -- otherwise none
      pub none_paired : (left ≡ count → ⊥) → [] ≡ queue_by b z numbers lower
      unfolding queue_by
      none_paired g = let s = ne_eqb _ _ (λ h. g (left_by left e ∙ h ∙ sym (states_by count n))) in rw s refl

  -- the area with the statements' fates
  pub fated_by_lem : (queue d : List ℕ) → queue ≡ queue_by b z numbers lower → d ≡ put b (stmts_at z) (encode (fated (area_stmts b z) (map fate_pair (fates_of queue roles)))) → d ≡ put b (stmts_at z) (encode (fated_by b z numbers lower))
  unfolding fated_by
  fated_by_lem queue d q p = p ∙ ap₂ (λ (x : List ℕ) (r : List Role). put b (stmts_at z) (encode (fated (area_stmts b z) (map fate_pair (fates_of x r))))) q roles_are
