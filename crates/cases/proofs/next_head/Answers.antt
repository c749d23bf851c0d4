use Rattle.std.proofs.Common.{arith, add-one, length-set}
use Rattle.std.proofs.Math.Seq.{take-suc-set}
use Rattle.std.proofs.lemmas.List.{take_all}
use Rattle.cases.proofs.Words.{takes_snoc}
use Rattle.cases.proofs.next_head.Goals as goal

pub loop-word-preserved : goal.loop-word-preserved
loop-word-preserved g c = let inv = c.loop-word.invariant in (
  simp length-set inv.0,
  rw (add-one, take-suc-set c.loop-word.word-items c.loop-word.word-index c.in_ok-word.field-0 (omega arith)) (takes_snoc _ _ _ _ _ inv.1 c.in_ok-word.ensures),
)

pub returns : goal.returns
returns g c = let inv = c.loop-word.invariant in rw (take_all c.loop-word.word-index c.loop-word.word-items (omega arith)) at inv.1
