-- Classes of names: the table of texts that the code goes over, and what a text's class decides.
use mathlib.Core.Path.{◌≡◌, refl, sym, ◌∙◌, ap}
use mathlib.Core.List.{List, [], ◌∷◌, map}
use mathlib.Core.Bool.{Bool, true, false, cond, not, ◌&&◌, ◌||◌}
use Prim.Native.Nat.{ℕ, suc, ◌+◌, ◌<◌}
use native.Mathlib.Omega.{arith}
use borrow.Author.Tests.{eqb-true}
use denote.Ref.{Bor}
use lib.Dec.{eqb, leb, ltb}
use lib.ListN.{length, get_or}
use Rattle.functions.specs.Lists.{text, same_text, one_of, all}
use Rattle.functions.specs.Tables.{value_among}
use Rattle.functions.proofs.Lists.{clash, and_both, every}
use Rattle.functions.proofs.Texts.{same_text_equal, equal_same_text}
use Rattle.definitions.specs.Names.{text_of, spells, reserved, built_ins, is_time, is_reserved, is_built_in, is_non_negative, is_real}
use Rattle.builder.specs.declared.names.Class.{Class}
use Rattle.builder.specs.declared.names.Class.TheVariants.{Time, NonNegative, Real}
use Rattle.builder.specs.declared.names.Class.TheVariants as classes
use Rattle.builder.specs.contracts.names.ClassPartialEq.TheImpl.{ghosts}
use Rattle.builder.specs.Tables.{deciding, class_from, class_of, class_number, Classes}

-- ---- the class by a table of texts

-- the texts of a table of pairs
abbrev texts : List (Bor (List ℕ) × Class) → List (List ℕ)
texts ps = map (λ p. p.0.now) ps

-- its classes are numbered from i on, and the class of every other text comes behind the last
unfoldable pub numbered : Class → ℕ → List (Bor (List ℕ) × Class) → Bool
numbered o i [] = eqb (class_number o) i
numbered o i ((y, k) ∷ ps) = eqb (class_number k) i && numbered o (i + 1) ps

-- then the number of a text's class is its place
pub class_among : (x : List ℕ) (o : Class) (i : ℕ) (ps : List (Bor (List ℕ) × Class)) → numbered o i ps ≡ true → class_number (value_among o ps x) ≡ class_from i (texts ps) x
unfolding numbered value_among class_from
class_among x o i [] h = eqb-true _ _ h
class_among x o i ((y, k) ∷ ps) h = let (a, b) = and_both (eqb (class_number k) i) _ h in go (same_text x y.now) (eqb-true _ _ a) (class_among x o (i + 1) ps b)
  where
    go : (d : Bool) → class_number k ≡ i → class_number (value_among o ps x) ≡ class_from (i + 1) (texts ps) x → class_number (cond d k (value_among o ps x)) ≡ cond d i (class_from (i + 1) (texts ps) x)
    go true e r = e
    go false e r = r

length_deciding : length deciding ≡ 18
unfolding deciding
length_deciding = refl

-- ---- what a class decides

-- comparing goes both ways
same_text_sym : (x y : List ℕ) → same_text x y ≡ same_text y x
same_text_sym x y = go (same_text x y) (same_text y x) refl refl
  where
    go : (a b : Bool) → same_text x y ≡ a → same_text y x ≡ b → a ≡ b
    go true true e g = refl
    go true false e g = let q : same_text y x ≡ true = ap (λ (z : List ℕ). same_text y z) (same_text_equal x y e) ∙ equal_same_text y in clash (cc)
    go false true e g = let q : same_text x y ≡ true = ap (λ (z : List ℕ). same_text x z) (same_text_equal y x g) ∙ equal_same_text x in clash (cc)
    go false false e g = refl

-- a text that is none of some is none of a part of them
none_of : (x : List ℕ) (ys zs : List (List ℕ)) → all (λ z. one_of z ys) zs ≡ true → one_of x ys ≡ false → one_of x zs ≡ false
unfolding all one_of
none_of x ys [] h n = refl
none_of x ys (z ∷ zs) h n = let (a, b) = and_both (one_of z ys) _ h in go (same_text x z) refl a (none_of x ys zs b n)
  where
    go : (d : Bool) → same_text x z ≡ d → one_of z ys ≡ true → one_of x zs ≡ false → same_text x z || one_of x zs ≡ false
    go true e a r = let q : one_of x ys ≡ true = ap (λ (w : List ℕ). one_of w ys) (same_text_equal x z e) ∙ a in clash (cc)
    go false e a r = rw e r

-- both true or both false
unfoldable pub agree : Bool → Bool → Bool
agree true b = b
agree false true = false
agree false false = true

agree_equal : (a b : Bool) → agree a b ≡ true → a ≡ b
unfolding agree
agree_equal true b h = sym h
agree_equal false true h = clash (cc)
agree_equal false false h = refl

-- A test of the class is the test whether the text is one of some, where both agree at each text that decides something and these are among them.
module _ (p : ℕ → Bool) (zs : List (List ℕ)) where
  abbrev pub agrees : ℕ → List ℕ → Bool
  agrees k y = agree (p k) (one_of y zs)

  from_law : (x : List ℕ) (ys : List (List ℕ)) (i : ℕ) → every agrees i ys ≡ true → (one_of x ys ≡ false → p (i + length ys) ≡ one_of x zs) → p (class_from i ys x) ≡ one_of x zs
  unfolding every class_from one_of
  from_law x [] i h k = let z : i + 0 ≡ i = omega arith in rw z at (k refl)
  from_law x (y ∷ ys) i h k =
      let (a, b) = and_both (agrees i y) _ h in
      let z : i + 1 + length ys ≡ i + suc (length ys) = omega arith in
      go (same_text x y) refl (agree_equal _ _ a) (λ n. from_law x ys (i + 1) b (λ e. ap p z ∙ k (rw (n, e) refl)))
    where
      go : (d : Bool) → same_text x y ≡ d → p i ≡ one_of y zs → (same_text x y ≡ false → p (class_from (i + 1) ys x) ≡ one_of x zs) → p (cond (same_text x y) i (class_from (i + 1) ys x)) ≡ one_of x zs
      go true e a r = rw e (a ∙ ap (λ (w : List ℕ). one_of w zs) (sym (same_text_equal x y e)))
      go false e a r = rw e (r e)

  pub class_law : every agrees 0 deciding ≡ true → all (λ z. one_of z deciding) zs ≡ true → p 18 ≡ false → (x : List ℕ) → p (class_of x) ≡ one_of x zs
  unfolding class_of
  class_law h g e x =
      let z : 0 + length deciding ≡ 18 = omega (arith, length_deciding) in
      from_law x deciding 0 h (λ n. ap p z ∙ e ∙ sym (none_of x deciding zs g n))

or_none : (b : Bool) → b || false ≡ b
or_none true = refl
or_none false = refl

-- one text
one_text : (x y : List ℕ) → one_of x (y ∷ []) ≡ same_text y x
unfolding one_of
one_text x y = or_none (same_text x y) ∙ same_text_sym x y

-- the tests on a class, and the texts that each asks for

abbrev Agreed : (ℕ → Bool) → List (List ℕ) → Type 0
Agreed p zs = (every (agrees p zs) 0 deciding ≡ true) × (all (λ z. one_of z deciding) zs ≡ true) × (p 18 ≡ false)

time_agrees : Agreed (λ k. eqb k 0) (text "t" ∷ [])
unfolding every agree deciding one_of same_text text all
time_agrees = (refl, refl, refl)

reserved_agrees : Agreed (λ k. leb k 5) reserved
unfolding every agree deciding one_of same_text text all reserved
reserved_agrees = (refl, refl, refl)

built_in_agrees : Agreed (λ k. leb 8 k && ltb k 18) built_ins
unfolding every agree deciding one_of same_text text all built_ins
built_in_agrees = (refl, refl, refl)

non_negative_agrees : Agreed (λ k. eqb k 6) (text "NonNegative" ∷ [])
unfolding every agree deciding one_of same_text text all
non_negative_agrees = (refl, refl, refl)

real_agrees : Agreed (λ k. eqb k 7) (text "R" ∷ [])
unfolding every agree deciding one_of same_text text all
real_agrees = (refl, refl, refl)

-- the class of a name's text decides what the text does
module _ (names : List (List ℕ)) (n : ℕ) where
  of_class : (p : ℕ → Bool) (zs : List (List ℕ)) → Agreed p zs → p (class_of (text_of names n)) ≡ one_of (text_of names n) zs
  of_class p zs a = class_law p zs a.0 a.1 a.2 (text_of names n)

  pub class_time : eqb (class_of (text_of names n)) 0 ≡ is_time names n
  unfolding is_time spells
  class_time = of_class _ _ time_agrees ∙ one_text (text_of names n) (text "t")

  pub class_reserved : leb (class_of (text_of names n)) 5 ≡ is_reserved names n
  unfolding is_reserved
  class_reserved = of_class _ _ reserved_agrees

  pub class_built_in : (leb 8 (class_of (text_of names n)) && ltb (class_of (text_of names n)) 18) ≡ is_built_in names n
  unfolding is_built_in
  class_built_in = of_class _ _ built_in_agrees

  pub class_non_negative : eqb (class_of (text_of names n)) 6 ≡ is_non_negative names n
  unfolding is_non_negative spells
  class_non_negative = of_class _ _ non_negative_agrees ∙ one_text (text_of names n) (text "NonNegative")

  pub class_real : eqb (class_of (text_of names n)) 7 ≡ is_real names n
  unfolding is_real spells
  class_real = of_class _ _ real_agrees ∙ one_text (text_of names n) (text "R")

-- ---- the tests in code, by the number of a class

pub time_number : (k : Class) → ghosts.eq k Time ≡ eqb (class_number k) 0
time_number classes.Time = refl
time_number classes.U = refl
time_number classes.Dudt = refl
time_number classes.F = refl
time_number classes.G = refl
time_number classes.Input = refl
time_number classes.NonNegative = refl
time_number classes.Real = refl
time_number classes.Sin = refl
time_number classes.Cos = refl
time_number classes.Tan = refl
time_number classes.Pow = refl
time_number classes.Exp = refl
time_number classes.Log = refl
time_number classes.Sqrt = refl
time_number classes.Abs = refl
time_number classes.Interp1d = refl
time_number classes.Piecewise = refl
time_number classes.Other = refl

pub non_negative_number : (k : Class) → ghosts.eq k NonNegative ≡ eqb (class_number k) 6
non_negative_number classes.Time = refl
non_negative_number classes.U = refl
non_negative_number classes.Dudt = refl
non_negative_number classes.F = refl
non_negative_number classes.G = refl
non_negative_number classes.Input = refl
non_negative_number classes.NonNegative = refl
non_negative_number classes.Real = refl
non_negative_number classes.Sin = refl
non_negative_number classes.Cos = refl
non_negative_number classes.Tan = refl
non_negative_number classes.Pow = refl
non_negative_number classes.Exp = refl
non_negative_number classes.Log = refl
non_negative_number classes.Sqrt = refl
non_negative_number classes.Abs = refl
non_negative_number classes.Interp1d = refl
non_negative_number classes.Piecewise = refl
non_negative_number classes.Other = refl

pub real_number : (k : Class) → ghosts.eq k Real ≡ eqb (class_number k) 7
real_number classes.Time = refl
real_number classes.U = refl
real_number classes.Dudt = refl
real_number classes.F = refl
real_number classes.G = refl
real_number classes.Input = refl
real_number classes.NonNegative = refl
real_number classes.Real = refl
real_number classes.Sin = refl
real_number classes.Cos = refl
real_number classes.Tan = refl
real_number classes.Pow = refl
real_number classes.Exp = refl
real_number classes.Log = refl
real_number classes.Sqrt = refl
real_number classes.Abs = refl
real_number classes.Interp1d = refl
real_number classes.Piecewise = refl
real_number classes.Other = refl

-- ---- name n, by the table of classes

module _ {names : List (List ℕ)} {cs : List Class} (h : Classes names cs) (n : ℕ) (l : n < length names) where
  pub entry_time : ghosts.eq (get_or cs n Time) Time ≡ is_time names n
  entry_time = time_number (get_or cs n Time) ∙ rw (h.class n Time l) (class_time names n)

  pub entry_reserved : leb (class_number (get_or cs n Time)) 5 ≡ is_reserved names n
  entry_reserved = rw (h.class n Time l) (class_reserved names n)

  pub entry_built_in : (leb 8 (class_number (get_or cs n Time)) && ltb (class_number (get_or cs n Time)) 18) ≡ is_built_in names n
  entry_built_in = rw (h.class n Time l) (class_built_in names n)

  pub entry_non_negative : ghosts.eq (get_or cs n Time) NonNegative ≡ is_non_negative names n
  entry_non_negative = non_negative_number (get_or cs n Time) ∙ rw (h.class n Time l) (class_non_negative names n)

  pub entry_real : ghosts.eq (get_or cs n Time) Real ≡ is_real names n
  entry_real = real_number (get_or cs n Time) ∙ rw (h.class n Time l) (class_real names n)

  -- t, or a name that is not reserved
  pub entry_usable : (ghosts.eq (get_or cs n Time) Time || not (leb (class_number (get_or cs n Time)) 5)) ≡ (is_time names n || not (is_reserved names n))
  entry_usable = rw (entry_time, entry_reserved) refl
