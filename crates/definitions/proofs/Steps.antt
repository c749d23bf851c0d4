-- Steps of a graph on n places. n steps reach whatever a route does, for with each step more places reach b, or none ever will; and where a step leads to a
-- place that is not reached from itself, fewer places are reached from there.
use mathlib.Core.Path.{◌≡◌, refl}
use mathlib.Core.Logic.{◌⊎◌, inl, inr, ⊎_elim}
use Prim.Native.Nat.{ℕ, zero, suc, ◌+◌, ◌≤◌, ◌<◌}
use native.Mathlib.Nat.{eq-or-lt_of_le}
use native.Mathlib.Omega.{arith}
use mathlib.Core.Bool.{Bool, true, false, ◌||◌, or-true}
use mathlib.Core.List.{List}
use lib.Dec.{eqb, leb}
use borrow.Author.Tests.{eqb-true, eq-eqb, leb-true, leb-false}
use Rattle.functions.specs.Lists.{member, flag, reaches}
use Rattle.functions.proofs.Lists.{clash}
use Rattle.definitions.specs.Meaning.{Route, step, further}
use Rattle.definitions.proofs.ListLaws.{or_either, member_any, any_member}

-- ---- counting

-- How many numbers below n pass a test.
passing : (ℕ → Bool) → ℕ → ℕ
passing p zero = 0
passing p (suc n) = flag (p n) + passing p n

-- at most all
passing_few : (p : ℕ → Bool) (n : ℕ) → passing p n ≤ n
unfolding passing flag
passing_few p zero = omega arith
passing_few p (suc n) = go (p n) (passing_few p n)
  where
    go : (b : Bool) → passing p n ≤ n → flag b + passing p n ≤ suc n
    go true h = omega arith
    go false h = omega arith

-- a test that passes where another does
flag_more : (a b : Bool) → (a ≡ true → b ≡ true) → flag a ≤ flag b
unfolding flag
flag_more true b h = rw (h refl) (omega arith)
flag_more false b h = omega arith

module _ (p q : ℕ → Bool) where
  -- at least as many where one passes wherever the other does
  passing_more : (n : ℕ) → ((x : ℕ) → x < n → p x ≡ true → q x ≡ true) → passing p n ≤ passing q n
  unfolding passing
  passing_more zero h = omega arith
  passing_more (suc n) h = omega (arith, flag_more (p n) (q n) (h n (omega arith)), passing_more n (λ x l. h x (omega arith)))

  -- more where it passes at one number at which the other does not
  passing_less : (n : ℕ) → ((x : ℕ) → x < n → p x ≡ true → q x ≡ true) → (b : ℕ) → b < n → p b ≡ false → q b ≡ true → passing p n < passing q n
  unfolding passing flag
  passing_less zero h b l e g = absurd (omega arith)
  passing_less (suc n) h b l e g =
      let k : b ≤ n = omega arith in
      let r : (x : ℕ) → x < n → p x ≡ true → q x ≡ true = λ x y. h x (omega arith) in
      ⊎_elim (λ z. last z (passing_more n r)) (λ z. omega (arith, flag_more (p n) (q n) (h n (omega arith)), passing_less n r b z e g)) (eq-or-lt_of_le k)
    where
      last : b ≡ n → passing p n ≤ passing q n → flag (p n) + passing p n < flag (q n) + passing q n
      last z y = rw (← z, e, g) (rw z (omega arith))

-- ---- steps

module _ (next : ℕ → List ℕ) where
  -- the first of some steps
  first_step : (k a b : ℕ) → reaches next (suc k) a b ≡ true → (m : ℕ) × (member m (next a) ≡ true) × (eqb m b || reaches next k m b ≡ true)
  unfolding reaches
  first_step k a b h = any_member (λ m. eqb m b || reaches next k m b) (next a) h

  -- a step, and some more
  step_first : (k a m b : ℕ) → member m (next a) ≡ true → eqb m b || reaches next k m b ≡ true → reaches next (suc k) a b ≡ true
  unfolding reaches
  step_first k a m b i h = member_any (λ m. eqb m b || reaches next k m b) m (next a) i h

  -- what k steps reach wherever j do, k + 1 reach wherever j + 1 do
  later_steps : (j k b : ℕ) → ((a : ℕ) → reaches next j a b ≡ true → reaches next k a b ≡ true)
      → (a : ℕ) → reaches next (suc j) a b ≡ true → reaches next (suc k) a b ≡ true
  later_steps j k b s a h =
      let (m, i, e) = first_step j a b h in
      step_first k a m b i (or_either (eqb m b) (reaches next j m b) e (λ g. rw g refl) (λ g. rw (s m g) (or-true (eqb m b))))

  -- one step more reaches no less
  one_more : (k b a : ℕ) → reaches next k a b ≡ true → reaches next (suc k) a b ≡ true
  unfolding reaches
  one_more zero b a h = clash (cc)
  one_more (suc k) b a h = later_steps k (suc k) b (one_more k b) a h

  -- some steps are a route
  pub reaches_route : (k a b : ℕ) → reaches next k a b ≡ true → Route next a b
  unfolding reaches
  reaches_route zero a b h = clash (cc)
  reaches_route (suc k) a b h =
      let (m, i, e) = first_step k a b h in
      or_either (eqb m b) (reaches next k m b) e (λ g. step (rw (eqb-true m b g) at i)) (λ g. further m i (reaches_route k m b g))

  -- a route, and a step behind it
  pub route_step : {a m b : ℕ} → Route next a m → member b (next m) ≡ true → Route next a b
  route_step {a} {m} {b} (step i) h = further m i (step h)
  route_step {a} {m} {b} (further j i r) h = further j i (route_step r h)

-- ---- a graph whose steps lead from places below n to places below n

module _ (next : ℕ → List ℕ) (n : ℕ) (within : (a m : ℕ) → member m (next a) ≡ true → (a < n) × (m < n)) where
  -- a route leads from a place to a place
  pub route_within : {a b : ℕ} → Route next a b → (a < n) × (b < n)
  route_within {a} {b} (step i) = within a b i
  route_within {a} {b} (further m i r) = ((within a m i).0, (route_within r).1)

  -- From no place does one step more than k reach b where k do not.
  abbrev Full : ℕ → ℕ → Type 0
  Full b k = (a : ℕ) → reaches next (suc k) a b ≡ true → reaches next k a b ≡ true

  -- How many places reach b in k steps.
  abbrev reaching : ℕ → ℕ → ℕ
  reaching b k = passing (λ a. reaches next k a b) n

  -- so it is, or one place more does
  full_or_more : (b k : ℕ) → k ≤ reaching b k → Full b k ⊎ (suc k ≤ reaching b (suc k))
  full_or_more b k h = go (leb (reaching b (suc k)) (reaching b k)) refl
    where
      same : reaching b (suc k) ≤ reaching b k → (a : ℕ) (d : Bool) → reaches next k a b ≡ d → reaches next (suc k) a b ≡ true → d ≡ true
      same l a true e g = refl
      same l a false e g =
          let (m, i, _) = first_step next k a b g in
          absurd (omega (arith, passing_less (λ a. reaches next k a b) (λ a. reaches next (suc k) a b) n (λ x _. one_more next k b x) a (within a m i).0 e g))

      go : (d : Bool) → leb (reaching b (suc k)) (reaching b k) ≡ d → Full b k ⊎ (suc k ≤ reaching b (suc k))
      go true e = inl (λ a g. same (leb-true _ _ e) a _ refl g)
      go false e = inr (omega (arith, leb-false (reaching b (suc k)) (reaching b k) e))

  -- so it is with k steps, or k + 1 places reach b in one more
  full_by : (b k : ℕ) → Full b k ⊎ (suc k ≤ reaching b (suc k))
  full_by b zero = full_or_more b 0 (omega arith)
  full_by b (suc k) = ⊎_elim (λ s. inl (later_steps next (suc k) k b s)) (λ h. full_or_more b (suc k) h) (full_by b k)

  -- and there are not n + 1 places
  full : (b : ℕ) → Full b n
  full b = ⊎_elim (λ s. s) (λ h. absurd (omega (arith, passing_few (λ a. reaches next (suc n) a b) n))) (full_by b n)

  -- a step, and n steps more, are no more than n steps
  step_on : (a m b : ℕ) → member m (next a) ≡ true → eqb m b || reaches next n m b ≡ true → reaches next n a b ≡ true
  step_on a m b i h = full b a (step_first next n a m b i h)

  -- so n steps are enough for any route
  pub route_reaches : {a b : ℕ} → Route next a b → reaches next n a b ≡ true
  route_reaches {a} {b} (step i) = step_on a b b i (rw (eq-eqb b b refl) refl)
  route_reaches {a} {b} (further m i r) = step_on a m b i (rw (route_reaches r) (or-true (eqb m b)))

  -- ---- where a place is not reached from itself

  -- How many places are reached from a.
  pub rank : ℕ → ℕ
  rank a = passing (λ b. reaches next n a b) n

  -- no route, no steps
  not_reached_lem : (a : ℕ) → (Route next a a → ⊥) → reaches next n a a ≡ false
  not_reached_lem a free = go (reaches next n a a) refl
    where
      go : (d : Bool) → reaches next n a a ≡ d → d ≡ false
      go true e = absurd (free (reaches_route next n a a e))
      go false e = refl

  -- from a place that is not reached from itself not all are
  pub rank_small : (a : ℕ) → a < n → (Route next a a → ⊥) → rank a < n
  unfolding rank
  rank_small a l free = omega (arith, passing_less (λ b. reaches next n a b) (λ b. true) n (λ x _ _. refl) a l (not_reached_lem a free) refl, passing_few (λ b. true) n)

  -- and fewer than from any place that leads to it
  pub rank_falls : (a m : ℕ) → member m (next a) ≡ true → (Route next m m → ⊥) → rank m < rank a
  unfolding rank
  rank_falls a m i free =
      passing_less (λ b. reaches next n m b) (λ b. reaches next n a b) n (λ b _ e. step_on a m b i (rw e (or-true (eqb m b)))) m (within a m i).1
      (not_reached_lem m free) (step_on a m m i (rw (eq-eqb m m refl) refl))
