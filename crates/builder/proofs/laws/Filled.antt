-- A table filled from its front: what is said of each of its first n places and their entries, as that they are those of a function of the place.
use mathlib.Core.Path.{◌≡◌}
use mathlib.Core.List.{List}
use Prim.Native.Nat.{ℕ, ◌+◌, ◌<◌}
use native.Mathlib.Omega.{arith}
use native.Mathlib.Decide.{ℕ_discrete}
use lib.ListN.{length, get_or, set, length-set}
use lib.Seq.{get_or-set_same, get_or-set_other}

pub record FilledAs {A : Type 0} (d : A) (size : ℕ) (r : ℕ → A → Type 0) (n : ℕ) (t : List A) : Type 0 where
  pub long : length t ≡ size
  pub entry : (k : ℕ) → k < n → r k (get_or t k d)

module _ {A : Type 0} (d : A) (size : ℕ) (r : ℕ → A → Type 0) where
  -- of any table of that size nothing is said
  pub filled_as_none : (t : List A) → length t ≡ size → FilledAs d size r 0 t
  filled_as_none t h = record { long = h; entry = λ k l. absurd (omega arith) }

  -- one entry more
  pub filled_as_more : (n : ℕ) (v : A) (t : List A) → n < size → r n v → FilledAs d size r n t → FilledAs d size r (n + 1) (set t n v)
  filled_as_more n v t h e f = record { long = simp length-set f.long; entry = λ k l. go k l (ℕ_discrete k n) }
    where
      go : (k : ℕ) → k < n + 1 → Dec (k ≡ n) → r k (get_or (set t n v) k d)
      go k l (yes q) = let p : get_or (set t n v) n d ≡ v = get_or-set_same t n v d (omega (arith, f.long)) in rw (q, p) e
      go k l (no q) = rw (get_or-set_other t n k v d q) (f.entry k (omega arith))

-- by a function
module _ {A : Type 0} (d : A) (size : ℕ) (g : ℕ → A) where
  abbrev pub Filled : ℕ → List A → Type 0
  Filled n t = FilledAs d size (λ k x. x ≡ g k) n t

  pub filled_none : (t : List A) → length t ≡ size → Filled 0 t
  filled_none t h = filled_as_none d size _ t h

  pub filled_more : (n : ℕ) (v : A) (t : List A) → n < size → v ≡ g n → Filled n t → Filled (n + 1) (set t n v)
  filled_more n v t h e f = filled_as_more d size _ n v t h e f
