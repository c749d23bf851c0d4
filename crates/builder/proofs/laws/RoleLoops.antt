-- The code's roles of statements: whether one is among them, how many are neither, and the states that none goes to.
use mathlib.Core.Path.{◌≡◌, refl, sym}
use mathlib.Core.Bool.{Bool, true, false, cond}
use mathlib.Core.List.{List, [], ◌∷◌, ◌++◌, map, append-nil}
use Prim.Native.Nat.{ℕ, zero, suc, ◌+◌, ◌≤◌, ◌<◌}
use native.Mathlib.Omega.{arith}
use native.Mathlib.Numerals.{add-one}
use lib.ListN.{length, length-append}
use Rattle.std.specs.List.{All, list_any, count_by}
use Rattle.std.proofs.lemmas.List.Elements.{All-nil, All-push, All-weaker}
use Rattle.std.proofs.lemmas.List.Recursion.{is_count_by}
use Rattle.functions.specs.Lists.{any, keep}
use Rattle.definitions.specs.Roles as definitions
use Rattle.definitions.specs.Allocate.{is_rate_of, is_free, left_count}
use Rattle.builder.specs.declared.allocation.roles.Role.{Role}
use Rattle.builder.specs.declared.allocation.roles.Role.TheVariants.{Neither, Initial, Rate}
use Rattle.builder.specs.contracts.allocation.roles.RolePartialEq.TheImpl.{ghosts}
use Rattle.builder.specs.Allocating.{role_as, is_start_of, is_role}
use Rattle.builder.specs.Tables.{lacks_in, lacking_in}
use Rattle.builder.proofs.laws.FateLaws.{eqb_turn}

-- ---- among the roles

-- one of them
is_same : (x r : Role) → ghosts.eq r x ≡ is_role (role_as x) (role_as r)
unfolding is_role is_start_of is_rate_of is_free role_as
is_same Neither Neither = refl
is_same Neither (Initial u) = refl
is_same Neither (Rate u) = refl
is_same (Initial v) Neither = refl
is_same (Initial v) (Initial u) = eqb_turn u v
is_same (Initial v) (Rate u) = refl
is_same (Rate v) Neither = refl
is_same (Rate v) (Initial u) = refl
is_same (Rate v) (Rate u) = eqb_turn u v

pub any_role : (x : Role) (rs : List Role) → list_any (λ r. ghosts.eq r x) rs ≡ any (is_role (role_as x)) (map role_as rs)
unfolding any
any_role x [] = refl
any_role x (r ∷ rs) = rw (is_same x r, any_role x rs) refl

-- a rate equation of v
pub any_rate : (v : ℕ) (rs : List Role) → list_any (λ r. ghosts.eq r (Rate v)) rs ≡ any (is_rate_of v) (map role_as rs)
unfolding is_role role_as
any_rate v rs = any_role (Rate v) rs

-- how many are neither
pub neither_count : (rs : List Role) → count_by (λ r. ghosts.eq r Neither) rs ≡ left_count (map role_as rs)
unfolding left_count keep is_free role_as
neither_count rs = sym (is_count_by (λ xs. left_count (map role_as xs)) (λ r. ghosts.eq r Neither) refl step rs)
  where
    step : (r : Role) (xs : List Role) → left_count (map role_as (r ∷ xs)) ≡ cond (ghosts.eq r Neither) (1 + left_count (map role_as xs)) (left_count (map role_as xs))
    step Neither xs = omega arith
    step (Initial v) xs = refl
    step (Rate v) xs = refl

-- ---- the states that lack an equation

module _ (roles : List definitions.Role) (states : List ℕ) where
  lacking_more : (v : ℕ) → lacking_in roles states (v + 1) ≡ lacking_in roles states v ++ cond (lacks_in roles states v) (v ∷ []) []
  unfolding lacking_in
  lacking_more v = rw add-one refl

  -- variable v is one more of them, or not
  pub lacking_with : (v : ℕ) → lacks_in roles states v ≡ true → lacking_in roles states (v + 1) ≡ lacking_in roles states v ++ (v ∷ [])
  lacking_with v e = rw e at (lacking_more v)

  pub lacking_without : (v : ℕ) → lacks_in roles states v ≡ false → lacking_in roles states (v + 1) ≡ lacking_in roles states v
  lacking_without v e = rw (e, append-nil) at (lacking_more v)

  -- no more of them than variables
  pub lacking_few : (n : ℕ) → length (lacking_in roles states n) ≤ n
  unfolding lacking_in
  lacking_few zero = omega arith
  lacking_few (suc n) = go (lacks_in roles states n) (lacking_few n)
    where
      go : (b : Bool) → length (lacking_in roles states n) ≤ n → length (lacking_in roles states n ++ cond b (n ∷ []) []) ≤ suc n
      go true l = simp length-append (omega arith)
      go false l = simp length-append (omega arith)

  -- each of them is a variable
  pub lacking_below : (n : ℕ) → All (λ v. v < n) (lacking_in roles states n)
  unfolding lacking_in
  lacking_below zero = All-nil (λ v. v < 0)
  lacking_below (suc n) = go (lacks_in roles states n) (All-weaker (λ v. v < n) (λ v. v < suc n) (λ v (l : v < n). omega arith) _ (lacking_below n))
    where
      go : (b : Bool) → All (λ v. v < suc n) (lacking_in roles states n) → All (λ v. v < suc n) (lacking_in roles states n ++ cond b (n ∷ []) [])
      go true h = All-push (λ v. v < suc n) _ n h (omega arith)
      go false h = rw append-nil h
