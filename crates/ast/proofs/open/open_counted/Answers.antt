use native.Mathlib.Omega.{arith}
use mathlib.Core.Path.{◌≡◌, refl, sym, ◌∙◌}
use Prim.Native.Nat.{◌+◌}
use lib.ListN.{length}
use borrow.Author.Tests.{eq-eqb, ne_eqb}
use Rattle.ast.specs.File.{trailer_at, open_counted, open_contents}
use Rattle.ast.specs.Opens.{refusal_number, opened_as, Placed}
use Rattle.ast.proofs.Opened.{ends}
use Rattle.ast.proofs.open.open_counted.Goals as goal

pub returns-then-not-within_mosts : goal.returns-then-not-within_mosts
unfolding open_counted refusal_number opened_as Placed
returns-then-not-within_mosts c = record { says = rw (sym c.within_mosts.ensures ∙ c.if-not-within_mosts.true) refl; placed = tt }

pub returns-then-f-s : goal.returns-then-f-s
unfolding open_counted refusal_number opened_as Placed
returns-then-f-s c = let w = sym c.within_mosts.ensures ∙ c.if-not-within_mosts.false in
    let e = ends _ _ w c.starts-s.ensures in
    let n : length c.args.f.now ≡ trailer_at c.args.c + 32 → ⊥ = λ q. c.if-f-s.true (omega (arith, q, e.trailer)) in
    record { says = rw (w, ne_eqb _ _ n) refl; placed = tt }

pub all_fit-requires : goal.all_fit-requires
all_fit-requires c = let e = ends _ _ (sym c.within_mosts.ensures ∙ c.if-not-within_mosts.false) c.starts-s.ensures in
    (record { within = e.within; long = omega (arith, c.if-f-s.false, e.trailer) }, c.starts-s.ensures)

pub returns-then-not-all_fit : goal.returns-then-not-all_fit
unfolding open_counted open_contents refusal_number opened_as Placed
returns-then-not-all_fit c = let w = sym c.within_mosts.ensures ∙ c.if-not-within_mosts.false in
    let e = ends _ _ w c.starts-s.ensures in
    let n : length c.args.f.now ≡ trailer_at c.args.c + 32 = omega (arith, c.if-f-s.false, e.trailer) in
    record { says = rw (w, eq-eqb _ _ n, sym c.all_fit.ensures ∙ c.if-not-all_fit.true) refl; placed = tt }

pub returns : goal.returns
unfolding open_counted open_contents opened_as Placed
returns c = let w = sym c.within_mosts.ensures ∙ c.if-not-within_mosts.false in
    let e = ends _ _ w c.starts-s.ensures in
    let n : length c.args.f.now ≡ trailer_at c.args.c + 32 = omega (arith, c.if-f-s.false, e.trailer) in
    let fits = sym c.all_fit.ensures ∙ c.if-not-all_fit.false in
    record {
      says = rw (w, eq-eqb _ _ n, fits) refl;
      placed = (record { laid = record { within = e.within; long = n }; starts = c.starts-s.ensures; fits = fits }, refl);
    }
