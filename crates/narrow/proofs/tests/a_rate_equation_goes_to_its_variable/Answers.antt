use mathlib.Core.Path.{◌≡◌, refl}
use mathlib.Core.List.{List}
use mathlib.Core.Logic.{inr}
use Prim.Native.Nat.{ℕ, zero, suc, ◌≤◌, ◌<◌}
use native.Mathlib.Omega.{arith}
use native.Mathlib.Decide.{ℕ_discrete}
use lib.ListN.{get_or, get_or-replicate, replicate, set}
use lib.Seq.{get_or-set_other}
use Rattle.functions.specs.Computes.{functions·computes}
use Rattle.ast.specs.Computes.{ast·computes}
use Rattle.area.specs.Sections.{stmts_at, vars_at, deps_at}
use Rattle.narrow.proofs.tests.a_rate_equation_goes_to_its_variable.Goals as goal

-- what is so of the first of one
only : (P : ℕ → Type 0) → P 0 → (i : ℕ) → i < 1 → P i
only P p zero h = p
only P p (suc i) h = absurd (omega arith)

-- a table of numbers without an entry
abbrev none : List ℕ
none = replicate 256 0

-- with one entry, the first, none is above 2
few : (n : ℕ) → n < 256 → get_or (set none 0 2) n 0 ≤ 2
few n h = go (ℕ_discrete n 0)
  where
    go : Dec (n ≡ 0) → get_or (set none 0 2) n 0 ≤ 2
    go (yes e) = rw e (omega arith)
    go (no e) = omega (arith, get_or-set_other none 0 n 2 0 e, get_or-replicate {A = ℕ} 256 n 0 0 h)

pub roles-found-requires : goal.roles-found-requires
unfolding stmts_at vars_at deps_at functions·computes ast·computes
roles-found-requires g c = (
  (
    1,
    record {
      long = omega arith;
      small = record { nodes = omega arith; stmts = omega arith; vars = omega arith; deps = omega arith };
      few = omega arith;
      nodes = refl;
      kind = only _ (inr refl);
      right = only _ (omega arith, refl);
      left = only _ (λ e. absurd (omega (arith, e)));
      name = only _ (λ e. omega arith);
    },
  ),
  record { names = omega arith; vars = omega arith; entries = few },
)
