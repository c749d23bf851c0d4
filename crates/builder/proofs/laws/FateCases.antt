-- The fate of statement i by its role, case by case, and the states that are still queued behind it.
use mathlib.Core.Path.{◌≡◌, refl, ◌∙◌}
use mathlib.Core.Bool.{Bool, true, false}
use mathlib.Core.List.{List, [], ◌∷◌, map}
use Prim.Native.Nat.{ℕ, ◌+◌, ◌-◌}
use native.Mathlib.Omega.{arith}
use lib.ListN.{length, take, drop, get_or, get_or-map}
use Rattle.std.proofs.lemmas.List.{drop-map, take_rest}
use Rattle.functions.specs.Lists.{any}
use Rattle.definitions.specs.Roles.{free}
use Rattle.definitions.specs.Allocate.{is_rate_of, rate_fate}
use Rattle.definitions.specs.Answer.{fate_number, fate_variable}
use Rattle.builder.specs.declared.allocation.roles.Role.{Role}
use Rattle.builder.specs.declared.allocation.roles.Role.TheVariants.{Neither, Initial, Rate}
use Rattle.builder.specs.Allocating.{role_as}
use Rattle.builder.specs.Fating.{left_in, fate_in, fate_pair, queue_in}

module _ (roles : List Role) (i : ℕ) (queue : List ℕ) where
  abbrev pub numbers : ℕ × ℕ
  numbers = fate_pair (fate_in queue (get_or (map role_as roles) i free) (drop (i + 1) (map role_as roles)))

  abbrev pub behind : List ℕ
  behind = queue_in queue (get_or (map role_as roles) i free)

  role_here : (r : Role) → get_or roles i Neither ≡ r → get_or (map role_as roles) i free ≡ role_as r
  unfolding role_as
  role_here r e = get_or-map role_as roles i Neither ∙ rw e refl

  -- neither, with a state in the queue or with none
  pub neither_held : get_or roles i Neither ≡ Neither → (v w : ℕ) (rest : List ℕ) → w ≡ v → queue ≡ v ∷ rest → (numbers ≡ (2, w)) × (behind ≡ rest)
  unfolding role_as fate_in left_in queue_in fate_number fate_variable
  neither_held e v w rest g q = let r = role_here Neither e in (rw (r, q, g) refl, rw (r, q) refl)

  pub neither_over : get_or roles i Neither ≡ Neither → length queue ≡ 0 → (numbers ≡ (4, 0)) × (behind ≡ queue)
  unfolding role_as fate_in left_in queue_in fate_number fate_variable
  neither_over e l = let r = role_here Neither e in go queue l refl
    where
      go : (q : List ℕ) → length q ≡ 0 → queue ≡ q → (numbers ≡ (4, 0)) × (behind ≡ queue)
      go [] l g = (rw (role_here Neither e, g) refl, rw (role_here Neither e, g) refl)
      go (v ∷ q) l g = absurd (omega arith)

  -- an initial condition
  pub initial_is : (v w : ℕ) → w ≡ v → get_or roles i Neither ≡ Initial v → (numbers ≡ (1, w)) × (behind ≡ queue)
  unfolding role_as fate_in queue_in fate_number fate_variable
  initial_is v w g e = let r = role_here (Initial v) e in (rw (r, g) refl, rw r refl)

  -- a rate equation, with one of its variable behind it or with none
  module _ (v w : ℕ) (g : w ≡ v) (e : get_or roles i Neither ≡ Rate v) (b : Bool) (later : b ≡ any (is_rate_of v) (map role_as (take (length roles - (i + 1)) (drop (i + 1) roles)))) where
    rate_is : (numbers ≡ fate_pair (rate_fate b v)) × (behind ≡ queue)
    unfolding role_as fate_in queue_in
    rate_is =
        let r = role_here (Rate v) e in
        (rw (r, later, take_rest roles (i + 1), drop-map) refl, rw r refl)

    pub replaced_is : b ≡ true → (numbers ≡ (3, w)) × (behind ≡ queue)
    unfolding rate_fate fate_number fate_variable
    replaced_is t = rw (t, ← g) at rate_is

    pub held_is : b ≡ false → (numbers ≡ (2, w)) × (behind ≡ queue)
    unfolding rate_fate fate_number fate_variable
    held_is t = rw (t, ← g) at rate_is
