-- Bounds in floats, as the code works them out by an unknown's domain, and in bits; and the unknown that declares a name last.
use Rattle.std.specs.Prelude.{ℕ, ◌^◌, ◌<◌, ◌≡◌, Bool, false, cond, eqb, List, [], get_or, Float, Option, None, Some, IfSome}
use Rattle.std.specs.Float.{binary64}
use Rattle.std.specs.Float.Ieee.{is_nan, to_bits}
use Rattle.ast.specs.Words.{float_from}
use Rattle.ast.specs.Records.{name_of_unknown, domain_of}
use Rattle.ast.specs.Numbers.{number_of}
use Rattle.ast.specs.Opens.{contents_in, file_in}
use Rattle.ast.specs.declared.numbers.Bounds as declared
use Rattle.ast.specs.declared.numbers.Domain.{Domain}
use Rattle.ast.specs.declared.numbers.Domain.TheVariants as domain
use Rattle.ast.specs.declared.sections.Sections.{Sections}
use Rattle.definitions.specs.Variables.{Bounds, from_zero, unbounded, domain_bounds, last_bounds}
use Rattle.definitions.specs.Flatten.{model_at}
use Rattle.builder.specs.declared.names.Class.{Class}
use Rattle.builder.specs.declared.names.Class.TheVariants.{Time}
use Rattle.builder.specs.Tables.{class_number, non_negative}

-- from 0 to infinity, or unbounded
unfoldable pub bounds_from : Bool → Bounds
bounds_from floor = cond floor from_zero unbounded

-- the pair of floats that two numbers of 64 bits are: any NaN is one and the same
unfoldable pub floats : Bounds → declared.Bounds
floats b = record { lower = number_of b.lower; upper = number_of b.upper }

-- what the code holds of bounds
pub record Floating (b : Bounds) (x : declared.Bounds) : Type 0 where
  pub same : x ≡ floats b
  pub lower_small : b.lower < 2 ^ 64
  pub upper_small : b.upper < 2 ^ 64

-- Each case of a domain: none, where a time begins at 0; the range itself; a name by its class, where NonNegative begins at 0.
unfoldable pub case_bounds : Domain → Bool → List Class → declared.Bounds
case_bounds domain.None time classes = floats (bounds_from time)
case_bounds (domain.Span l u) time classes = record { lower = l; upper = u }
case_bounds (domain.Named n) time classes = floats (bounds_from (eqb (class_number (get_or classes n Time)) non_negative))

-- a domain's name is one of k
unfoldable pub NamedBelow : ℕ → Domain → Type 0
NamedBelow k domain.None = Unit {0}
NamedBelow k (domain.Span l u) = Unit {0}
NamedBelow k (domain.Named n) = n < k

module _ (f : List ℕ) (s : Sections) where
  -- The bounds of unknown u by its record.
  unfoldable pub unknown_bounds : ℕ → Bounds
  unknown_bounds u =
      let r = get_or (contents_in f s).unknowns u [] in
      domain_bounds (file_in f s).names (name_of_unknown r) (domain_of r)

  -- Of the unknown that declares them, and `b` where none does.
  unfoldable pub declared_bounds : Option ℕ → Bounds → Bounds
  declared_bounds None b = b
  declared_bounds (Some u) b = unknown_bounds u

  -- r is the unknown that declares the name last among those of model m, or none does.
  pub record LastDeclared (m name : ℕ) (r : Option ℕ) : Type 0 where
    pub within : IfSome r (λ u. u < s.counts.unknowns)
    pub bounds : (b : Bounds) → last_bounds (file_in f s).names name b (model_at (file_in f s) m).unknowns ≡ declared_bounds r b

  -- Time's bounds: those that model m declares last for a name (plus 1), and from 0 where it declares none.
  abbrev pub time_in : ℕ → ℕ → Bounds
  time_in m name = last_bounds (file_in f s).names name from_zero (model_at (file_in f s) m).unknowns

  -- The bits of a bound: those of its number. A NaN that an unknown declares has none of its own: those of the file, from word k of the unknown on.
  unfoldable pub bound_bits : Option ℕ → ℕ → Float → ℕ
  bound_bits None k x = to_bits binary64 x
  bound_bits (Some u) k x = cond (is_nan x) (float_from (get_or (contents_in f s).unknowns u []) k) (to_bits binary64 x)

  unfoldable pub bounds_bits : Option ℕ → declared.Bounds → Bounds
  bounds_bits r x = record { lower = bound_bits r 4 x.lower; upper = bound_bits r 6 x.upper }

-- A NaN is an unknown's.
unfoldable pub NanDeclared : Option ℕ → Float → Type 0
NanDeclared None x = is_nan x ≡ false
NanDeclared (Some u) x = Unit {0}

-- Of each of two bounds.
abbrev pub NansDeclared : Option ℕ → declared.Bounds → Type 0
NansDeclared r x = NanDeclared r x.lower × NanDeclared r x.upper
