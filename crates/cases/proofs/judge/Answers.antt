use Rattle.std.proofs.Common.{◌∷◌, [], ◌++◌, refl, arith, of_calls, length-append}
use Rattle.cases.specs.Judged.{Says}
use Rattle.cases.proofs.Folds.{FoldsTo-snoc, count_snoc}
use Rattle.cases.proofs.judge.Goals as goal

pub returns-in-None : goal.returns-in-None
returns-in-None g c = let inv = c.loop-cases.invariant.1 in record {
  rights = inv.0;
  last = (c.loop-cases.next, c.loop-cases.input);
  called = inv.1;
  ended = λ _. (c.next.new.self, record { shown = _; shows = refl; left = _; called = rw c.in-None.is at c.next.ensures; leaves = refl });
  cases = inv.2;
  wrong = inv.3;
}

pub loop-cases-preserved : goal.loop-cases-preserved
loop-cases-preserved g c = let inv = c.loop-cases.invariant.1 in let right = c.in-Some.right in (
  search of_calls,
  (
    inv.0 ++ right ∷ [],
    FoldsTo-snoc (Says g.F.FnMut) _ inv.0 _ right _ inv.1 record { shown = _; shows = refl; left = _; called = rw c.in-Some.is at c.next.ensures; leaves = refl },
    omega (arith, inv.2, length-append inv.0 (right ∷ [])),
    count_snoc inv.0 right _ _ inv.3 c.from-wrong.ensures,
    grind arith,
  ),
)

pub returns : goal.returns
returns g c = let inv = c.loop-cases.invariant.1 in record {
  rights = inv.0;
  last = (c.loop-cases.next, c.loop-cases.input);
  called = inv.1;
  ended = λ l. absurd (omega arith);
  cases = omega (arith, inv.2);
  wrong = inv.3;
}
