-- Bounds by an unknown's domain: in floats, in bits and in words; and the unknown that declares a name last.
use mathlib.Core.Path.{◌≡◌, refl, sym, ap, ◌∙◌}
use mathlib.Core.Logic.{◌⊎◌, inl, inr}
use mathlib.Core.Bool.{Bool, true, false, cond}
use mathlib.Core.List.{List, [], ◌∷◌, ◌++◌}
use Prim.Native.Nat.{ℕ, zero, suc, ◌+◌, ◌/◌, ◌%◌, ◌^◌, ◌≤◌, ◌<◌}
use native.Mathlib.Omega.{arith}
use native.Mathlib.Numerals.{add-one}
use lib.Dec.{eqb}
use lib.Ieee.{Float, binary64, of_bits, to_bits, is_nan}
use lib.Ieee.Bits.{to_bits-of_bits}
use lib.ListN.{length, take, drop, get_or}
use lib.Seq.{take_all, take-suc, drop-drop}
use Rattle.std.specs.Prelude.{Option, None, Some}
use Rattle.std.specs.Int.{w64, to_le_bytes}
use Rattle.std.specs.List.{find}
use Rattle.std.proofs.lemmas.Option.{none-some, same_Some}
use Rattle.functions.specs.Lists.{each}
use Rattle.functions.proofs.Lists.{clash}
use Rattle.ast.specs.Tree.{Unknown, Domain, unstated, range, named}
use Rattle.ast.specs.Words.{word_of, float_from, low, high, bytes4, bytes_of}
use Rattle.ast.specs.Bytes.{put}
use Rattle.ast.specs.Records.{domain_of, unknown_of}
use Rattle.ast.specs.Numbers.{number_of, DomainRead}
use Rattle.ast.specs.WellFormed.{DomainFormed}
use Rattle.ast.specs.declared.numbers.Bounds as declared
use Rattle.ast.specs.declared.numbers.Domain as declared_domain
use Rattle.ast.specs.declared.numbers.Domain.TheVariants.{Named}
use Rattle.ast.specs.declared.sections.Sections.{Sections}
use Rattle.ast.specs.Opens.{Open, contents_in, file_in}
use Rattle.definitions.specs.Names.{is_time, is_non_negative}
use Rattle.definitions.specs.Variables.{Bounds, infinity, minus_infinity, from_zero, unbounded, domain_bounds, last_bounds}
use Rattle.definitions.specs.Flatten.{model_at}
use Rattle.definitions.specs.Answer.{bounds_words}
use Rattle.builder.specs.declared.names.Class.{Class}
use Rattle.builder.specs.declared.names.Class.TheVariants.{Time}
use Rattle.builder.specs.Tables.{Classes}
use Rattle.builder.specs.Bounding.{bounds_from, floats, Floating, case_bounds, NamedBelow, unknown_bounds, declared_bounds, LastDeclared, bound_bits, bounds_bits, NanDeclared}
use Rattle.builder.proofs.laws.Domains.{domain_formed, coded, says_coded}
use Rattle.builder.proofs.laws.Classes.{class_non_negative}
use Rattle.builder.proofs.laws.Open.{model_record, unknown_record, names_long}
use Rattle.builder.proofs.laws.OpenRecords.{unknown_is, model_is}
use Rattle.builder.proofs.laws.Ranges.{downward}
use Rattle.area.proofs.Puts.{put_more}

-- ---- the bits of a number

-- the bits of a number are back
number_back : (b : ℕ) → b < 2 ^ 64 → is_nan (number_of b) ≡ false → to_bits binary64 (number_of b) ≡ b
unfolding number_of
number_back b h e = to_bits-of_bits binary64 b h (rw e tt)

-- ---- the floats from 0 or without bounds

-- neither is a NaN
from_numbers : (b : Bool) → (is_nan (number_of (bounds_from b).lower) ≡ false) × (is_nan (number_of (bounds_from b).upper) ≡ false)
unfolding bounds_from from_zero unbounded infinity minus_infinity number_of of_bits is_nan
from_numbers true = (refl, refl)
from_numbers false = (refl, refl)

from_small : (b : Bool) → ((bounds_from b).lower < 2 ^ 64) × ((bounds_from b).upper < 2 ^ 64)
unfolding bounds_from from_zero unbounded infinity minus_infinity
from_small true = (omega arith, omega arith)
from_small false = (omega arith, omega arith)

pub from_floating : (b : Bool) (x : declared.Bounds) → x ≡ floats (bounds_from b) → Floating (bounds_from b) x
from_floating b x e = let (l, u) = from_small b in record { same = e; lower_small = l; upper_small = u }

-- ---- domains

-- its name has a class
named_below : (names k : ℕ) (d : Domain) → names ≤ k → DomainFormed names d → NamedBelow k (coded d)
unfolding NamedBelow
named_below names k unstated l h = tt
named_below names k (range a b) l h = tt
named_below names k (named n) l h = omega arith

pub below_is : (k n : ℕ) (d : declared_domain.Domain) → d ≡ Named n → NamedBelow k d → n < k
unfolding NamedBelow
below_is k n d e h = rw e at h

module _ (texts : List (List ℕ)) (classes : List Class) (t : Classes texts classes) (n : ℕ) where
  -- Bounds worked out in floats are the bounds' floats.
  case_floats : (d : Domain) → DomainFormed (length texts) d → case_bounds (coded d) (is_time texts n) classes ≡ floats (domain_bounds texts n d)
  unfolding case_bounds domain_bounds bounds_from floats
  case_floats unstated h = refl
  case_floats (range l u) h = refl
  case_floats (named m) h = rw (t.class m Time h, class_non_negative texts m) refl

  case_small : (d : Domain) → DomainFormed (length texts) d → ((domain_bounds texts n d).lower < 2 ^ 64) × ((domain_bounds texts n d).upper < 2 ^ 64)
  unfolding domain_bounds bounds_from
  case_small unstated h = from_small (is_time texts n)
  case_small (range l u) h = h
  case_small (named m) h = from_small (is_non_negative texts m)

-- Bounds that an unknown of a file may declare: from 0 or unbounded, or its range.
module _ (f : List ℕ) (s : Sections) where
  abbrev range_of : ℕ → Bounds
  range_of u = record { lower = float_from (unknown_record f s u) 4; upper = float_from (unknown_record f s u) 6 }

  abbrev pub Stands : Option ℕ → Bounds → Type 0
  Stands r d = ((b : Bool) × (d ≡ bounds_from b)) ⊎ ((u : ℕ) × (r ≡ Some u) × (d ≡ range_of u))

  unknown_stands : (u : ℕ) → ((b : Bool) × (unknown_bounds f s u ≡ bounds_from b)) ⊎ (unknown_bounds f s u ≡ range_of u)
  unfolding unknown_bounds domain_of domain_bounds bounds_from
  unknown_stands u = go (eqb (word_of (unknown_record f s u) 3) 0) (eqb (word_of (unknown_record f s u) 3) 1) refl refl
    where
      go : (a b : Bool) → eqb (word_of (unknown_record f s u) 3) 0 ≡ a → eqb (word_of (unknown_record f s u) 3) 1 ≡ b → ((b : Bool) × (unknown_bounds f s u ≡ bounds_from b)) ⊎ (unknown_bounds f s u ≡ range_of u)
      go true b e g = inl (is_time (file_in f s).names (word_of (unknown_record f s u) 0), rw e refl)
      go false true e g = inr (rw (e, g) refl)
      go false false e g = inl (is_non_negative (file_in f s).names (word_of (unknown_record f s u) 4), rw (e, g) refl)

  pub declared_stands : (r : Option ℕ) (floor : Bool) → Stands r (declared_bounds f s r (bounds_from floor))
  unfolding declared_bounds
  declared_stands None floor = inl (floor, refl)
  declared_stands (Some u) floor = go (unknown_stands u)
    where
      go : ((b : Bool) × (unknown_bounds f s u ≡ bounds_from b)) ⊎ (unknown_bounds f s u ≡ range_of u) → Stands (Some u) (unknown_bounds f s u)
      go (inl b) = inl b
      go (inr e) = inr (u, refl, e)

  pub last_stands : (m name : ℕ) (r : Option ℕ) (floor : Bool) → LastDeclared f s m name r → Stands r (last_bounds (file_in f s).names name (bounds_from floor) (model_at (file_in f s) m).unknowns)
  last_stands m name r floor l = rw (l.bounds (bounds_from floor)) (declared_stands r floor)

  module _ (r : Option ℕ) (d : Bounds) (x : declared.Bounds) (h : Floating d x) where
    -- a NaN among them is a bound of the range
    abbrev Ranged : ℕ → ℕ → Type 0
    Ranged k b = is_nan (number_of b) ≡ true → (u : ℕ) × (r ≡ Some u) × (b ≡ float_from (unknown_record f s u) k)

    nans : Stands r d → Ranged 4 d.lower × Ranged 6 d.upper
    nans (inl (b, e)) =
        let (l, u) = from_numbers b in
        (λ t. let z : is_nan (number_of d.lower) ≡ false = rw e l in clash (cc), λ t. let z : is_nan (number_of d.upper) ≡ false = rw e u in clash (cc))
    nans (inr (u, p, e)) = (λ t. (u, p, ap (λ (y : Bounds). y.lower) e), λ t. (u, p, ap (λ (y : Bounds). y.upper) e))

    bits_back : (k b : ℕ) → b < 2 ^ 64 → Ranged k b → bound_bits f s r k (number_of b) ≡ b
    unfolding bound_bits
    bits_back k b l e = go r (is_nan (number_of b)) refl e
      where
        go : (r : Option ℕ) (t : Bool) → is_nan (number_of b) ≡ t → (is_nan (number_of b) ≡ true → (u : ℕ) × (r ≡ Some u) × (b ≡ float_from (unknown_record f s u) k)) → bound_bits f s r k (number_of b) ≡ b
        go None true g e = absurd (none-some (e g).0 (e g).1)
        go None false g e = number_back b l g
        go (Some u) true g e = let (v, p, q) = e g in rw (g, same_Some u v p) (sym q)
        go (Some u) false g e = rw g (number_back b l g)

    number_declared : (o : Option ℕ) (y : Float) → (is_nan y ≡ true → (u : ℕ) × (o ≡ Some u)) → NanDeclared o y
    unfolding NanDeclared
    number_declared None y e = go (is_nan y) refl
      where
        go : (t : Bool) → is_nan y ≡ t → t ≡ false
        go true g = absurd (none-some (e g).0 (e g).1)
        go false g = refl
    number_declared (Some u) y e = tt

    pub stands_nans : Stands r d → NanDeclared r x.lower × NanDeclared r x.upper
    unfolding floats
    stands_nans g = let (l, u) = nans g in rw h.same (number_declared r _ (λ t. let q = l t in (q.0, q.1)), number_declared r _ (λ t. let q = u t in (q.0, q.1)))

    -- their bits are the bounds
    pub stands_bits : Stands r d → bounds_bits f s r x ≡ d
    unfolding bounds_bits floats
    stands_bits g =
        let (l, u) = nans g in
        rw (h.same, bits_back 4 d.lower h.lower_small l, bits_back 6 d.upper h.upper_small u) refl

-- ---- the bits of a bound, as the code finds them

module _ (f : List ℕ) (s : Sections) (k : ℕ) (x : Float) where
  pub nan_bits : (u b : ℕ) → is_nan x ≡ true → b ≡ float_from (get_or (contents_in f s).unknowns u []) k → b ≡ bound_bits f s (Some u) k x
  unfolding bound_bits
  nan_bits u b t e = rw t e

  pub number_bits : (r : Option ℕ) → is_nan x ≡ false → to_bits binary64 x ≡ bound_bits f s r k x
  unfolding bound_bits
  number_bits None t = refl
  number_bits (Some u) t = rw t refl

-- the bytes of a number are those of its two words
bits_bytes : (x : ℕ) → x < 2 ^ 64 → to_le_bytes w64 x ≡ bytes_of (low x ∷ high x ∷ [])
unfolding bytes_of bytes4 low high each
bits_bytes x h =
    let a : x % 4294967296 % 256 ≡ x % 256 = omega arith in
    let b : x % 4294967296 / 256 % 256 ≡ x / 256 % 256 = omega arith in
    let c : x % 4294967296 / 65536 % 256 ≡ x / 65536 % 256 = omega arith in
    let d : x % 4294967296 / 16777216 ≡ x / 16777216 % 256 = omega arith in
    let e : x / 4294967296 / 256 % 256 ≡ x / 1099511627776 % 256 = omega arith in
    let f : x / 4294967296 / 65536 % 256 ≡ x / 281474976710656 % 256 = omega arith in
    let g : x / 4294967296 / 16777216 ≡ x / 72057594037927936 % 256 = omega arith in
    rw (a, b, c, d, e, f, g) refl

-- written into a part as long
pub bits_put : (x : ℕ) (d bytes : List ℕ) (p n : ℕ) → x < 2 ^ 64 → bytes ≡ to_le_bytes w64 x → n ≡ 8 → take p d ++ (bytes ++ drop n (drop p d)) ≡ put d p (bytes_of (low x ∷ high x ∷ []))
unfolding put bytes_of bytes4 each
bits_put x d bytes p n h e l = rw (e ∙ bits_bytes x h, l, drop-drop 8 p d) refl

-- two numbers written one behind the other
pub both_put : (f : List ℕ) (s : Sections) (r : Option ℕ) (x : declared.Bounds) (d d₁ d₂ : List ℕ) (p l u : ℕ) → l ≡ bound_bits f s r 4 x.lower → u ≡ bound_bits f s r 6 x.upper → p ≤ length d
    → d₁ ≡ put d p (bytes_of (low l ∷ high l ∷ [])) → d₂ ≡ put d₁ (p + 8) (bytes_of (low u ∷ high u ∷ [])) → d₂ ≡ put d p (bytes_of (bounds_words (bounds_bits f s r x)))
unfolding bounds_words bounds_bits
both_put f s r x d d₁ d₂ p l u el eu h e₁ e₂ = e₂ ∙ rw (← el, ← eu) (put_more d d₁ (low l ∷ high l ∷ []) p (p + 8) refl e₁ (low u ∷ high u ∷ []) h)

-- ---- unknown u of a file

module _ (f : List ℕ) (s : Sections) (u : ℕ) where
  module _ (o : Open f s) (h : u < s.counts.unknowns) (d : declared_domain.Domain) (e : DomainRead (domain_of (unknown_record f s u)) d) where
    its_formed : DomainFormed (length (file_in f s).names) (domain_of (unknown_record f s u))
    its_formed = rw (names_long f s) (domain_formed s.counts.names (unknown_record f s u) (unknown_is f s o u h).domain_fits_lem e.small)

    pub domain_below : (k : ℕ) → s.counts.names ≤ k → NamedBelow k d
    domain_below k l =
        rw (says_coded d _ e.says) (named_below (length (file_in f s).names) k (domain_of (unknown_record f s u)) (omega (arith, names_long f s)) its_formed)

    -- its bounds in floats
    pub unknown_floating : (classes : List Class) → Classes (file_in f s).names classes → (time : Bool) → time ≡ is_time (file_in f s).names (word_of (unknown_record f s u) 0)
        → (x : declared.Bounds) → x ≡ case_bounds d time classes → Floating (unknown_bounds f s u) x
    unfolding unknown_bounds
    unknown_floating classes t time et x ex =
        let n = word_of (unknown_record f s u) 0 in
        let q = domain_of (unknown_record f s u) in
        let (a, b) = case_small (file_in f s).names classes t n q its_formed in
        record { same = ex ∙ rw (says_coded d _ e.says, et) (case_floats (file_in f s).names classes t n q its_formed); lower_small = a; upper_small = b }

-- ---- the unknown that declares a name last

module _ (texts : List (List ℕ)) (v : ℕ) where
  last_behind : (b : Bounds) (xs : List Unknown) (u : Unknown)
      → last_bounds texts v b (xs ++ u ∷ []) ≡ cond (eqb (suc u.name) v) (domain_bounds texts u.name u.domain) (last_bounds texts v b xs)
  unfolding last_bounds
  last_behind b [] u = refl
  last_behind b (x ∷ xs) u = last_behind (cond (eqb (suc x.name) v) (domain_bounds texts x.name x.domain) b) xs u

  last_none : (b : Bounds) → last_bounds texts v b [] ≡ b
  unfolding last_bounds
  last_none b = refl

module _ (f : List ℕ) (s : Sections) (o : Open f s) (m : ℕ) (h : m < s.counts.models) (name : ℕ) where
  -- the bounds are decided by the first i unknowns of the model
  abbrev pub DecidedBy : ℕ → Type 0
  DecidedBy i = (b : Bounds) → last_bounds (file_in f s).names name b (model_at (file_in f s) m).unknowns ≡ last_bounds (file_in f s).names name b (take i (model_at (file_in f s) m).unknowns)

  pub decided_all : (i : ℕ) → i ≡ word_of (model_record f s m) 2 → DecidedBy i
  decided_all i e b =
      sym (ap (last_bounds (file_in f s).names name b) (take_all i (model_at (file_in f s) m).unknowns (omega (arith, (model_is f s o m h).unknowns_long))))

  pub decided_none : DecidedBy 0 → LastDeclared f s m name None
  unfolding declared_bounds
  decided_none d = record { within = tt; bounds = λ b. d b ∙ last_none (file_in f s).names name b }

  module _ (first : ℕ) (e : first ≡ word_of (model_record f s m) 1) where
    module _ (n : ℕ) (l : n < word_of (model_record f s m) 2) (d : DecidedBy (suc n)) where
      -- unknown n of the model
      last : Unknown
      last = unknown_of (contents_in f s).deps (unknown_record f s (first + n))

      one_more : take (suc n) (model_at (file_in f s) m).unknowns ≡ take n (model_at (file_in f s) m).unknowns ++ last ∷ []
      unfolding last
      one_more =
          let k : word_of (model_record f s m) 1 + n ≡ first + n = omega arith in
          let none = unknown_of [] [] in
          take-suc (model_at (file_in f s) m).unknowns n none (omega (arith, (model_is f s o m h).unknowns_long))
          ∙ ap (λ (u : Unknown). take n (model_at (file_in f s) m).unknowns ++ u ∷ []) ((model_is f s o m h).unknown n none l ∙ ap (λ (x : ℕ). unknown_of (contents_in f s).deps (unknown_record f s x)) k)

      decided_here : (b : Bounds) → last_bounds (file_in f s).names name b (model_at (file_in f s) m).unknowns
          ≡ cond (eqb (suc last.name) name) (domain_bounds (file_in f s).names last.name last.domain) (last_bounds (file_in f s).names name b (take n (model_at (file_in f s) m).unknowns))
      decided_here b = d b ∙ ap (last_bounds (file_in f s).names name b) one_more ∙ last_behind (file_in f s).names name b (take n (model_at (file_in f s) m).unknowns) last

      pub decided_found : eqb (word_of (unknown_record f s (first + n)) 0 + 1) name ≡ true → LastDeclared f s m name (Some (first + n))
      unfolding declared_bounds unknown_bounds last unknown_of
      decided_found t = let z = rw add-one at t in record { within = omega (arith, (model_is f s o m h).unknowns_within); bounds = λ b. decided_here b ∙ rw z refl }

      pub decided_next : eqb (word_of (unknown_record f s (first + n)) 0 + 1) name ≡ false → DecidedBy n
      unfolding last unknown_of
      decided_next t b = let z = rw add-one at t in decided_here b ∙ rw z refl

    -- the last of the first n that bears the name
    pub last_found : (n : ℕ) → n ≤ word_of (model_record f s m) 2 → DecidedBy n → LastDeclared f s m name (find (λ u. eqb (word_of (unknown_record f s u) 0 + 1) name) (downward first n))
    last_found zero l d = decided_none d
    last_found (suc n) l d = go (eqb (word_of (unknown_record f s (first + n)) 0 + 1) name) refl (last_found n (omega arith))
      where
        go : (t : Bool) → eqb (word_of (unknown_record f s (first + n)) 0 + 1) name ≡ t
            → (DecidedBy n → LastDeclared f s m name (find (λ u. eqb (word_of (unknown_record f s u) 0 + 1) name) (downward first n)))
            → LastDeclared f s m name (cond t (Some (first + n)) (find (λ u. eqb (word_of (unknown_record f s u) 0 + 1) name) (downward first n)))
        go true z before = decided_found n (omega arith) d z
        go false z before = before (decided_next n (omega arith) d z)
