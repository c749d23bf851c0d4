-- An unknown's domain as the code reads it: well formed, and the case that the file's is.
use mathlib.Core.Path.{◌≡◌, refl, ap}
use mathlib.Core.Bool.{Bool, true, false, cond, ◌&&◌}
use mathlib.Core.List.{List}
use Prim.Native.Nat.{ℕ, ◌<◌}
use native.Mathlib.Omega.{arith}
use borrow.Author.Tests.{ltb-true}
use lib.Dec.{eqb, ltb}
use Rattle.functions.proofs.Lists.{clash, and_both}
use Rattle.ast.specs.Tree.{Domain, unstated, range, named}
use Rattle.ast.specs.Words.{word_of, blank}
use Rattle.ast.specs.Records.{domain_fits, domain_of}
use Rattle.ast.specs.Numbers.{number_of, Stated, stated, stated_in, RangeSmall}
use Rattle.ast.specs.WellFormed.{DomainFormed}
use Rattle.ast.specs.declared.numbers.Domain as declared_domain
use Rattle.ast.specs.declared.numbers.Domain.TheVariants.{None, Span, Named}

module _ (names : ℕ) (r : List ℕ) (fits : domain_fits names r ≡ true) where
  -- one that is neither none nor a range is named, by a name
  other_named : eqb (word_of r 3) 0 ≡ false → eqb (word_of r 3) 1 ≡ false → word_of r 4 < names
  unfolding domain_fits
  other_named a b = go (eqb (word_of r 3) 2) (rw (a, b) at fits)
    where
      go : (t : Bool) → cond t (ltb (word_of r 4) names && eqb (word_of r 5) 0 && blank r 6) false ≡ true → word_of r 4 < names
      go true e = ltb-true _ _ (and_both _ _ (and_both _ (blank r 6) e).0).0
      go false e = clash (cc)

  -- what is read of a domain is well formed
  pub domain_formed : RangeSmall (domain_of r) → DomainFormed names (domain_of r)
  unfolding domain_of RangeSmall
  domain_formed = go (eqb (word_of r 3) 0) (eqb (word_of r 3) 1) refl refl
    where
      go : (a b : Bool) → eqb (word_of r 3) 0 ≡ a → eqb (word_of r 3) 1 ≡ b → RangeSmall (domain_of r) → DomainFormed names (domain_of r)
      go true b e g = rw e (λ h. tt)
      go false true e g = rw (e, g) (λ h. h)
      go false false e g = rw (e, g) (λ h. other_named e g)

-- the code's case of a domain
abbrev pub coded : Domain → declared_domain.Domain
coded unstated = None
coded (range l u) = Span (number_of l) (number_of u)
coded (named n) = Named n

pub says_coded : (x : declared_domain.Domain) (d : Domain) → stated x ≡ stated_in d → x ≡ coded d
unfolding stated stated_in
says_coded x d e = go x d (ap (λ (z : Stated). z.kind) e) e
  where
    go : (x : declared_domain.Domain) (d : Domain) → (stated x).kind ≡ (stated_in d).kind → stated x ≡ stated_in d → x ≡ coded d
    go None unstated k e = refl
    go None (range l u) k e = absurd (omega (arith, k))
    go None (named n) k e = absurd (omega (arith, k))
    go (Span a b) unstated k e = absurd (omega (arith, k))
    go (Span a b) (range l u) k e = cc (ap (λ (z : Stated). z.floats) e)
    go (Span a b) (named n) k e = absurd (omega (arith, k))
    go (Named m) unstated k e = absurd (omega (arith, k))
    go (Named m) (range l u) k e = absurd (omega (arith, k))
    go (Named m) (named n) k e = cc (ap (λ (z : Stated). z.names) e)

-- where it is a name, so is the file's
pub coded_named : (d : Domain) (n : ℕ) → coded d ≡ Named n → d ≡ named n
coded_named unstated n e = clash (cc)
coded_named (range l u) n e = clash (cc)
coded_named (named m) n e = cc
