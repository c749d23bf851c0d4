use lib.Seq.{length-take-le}
use Rattle.ast.specs.Bytes.{front}
use Rattle.area.proofs.lent.copy.Goals as goal

pub returns : goal.returns
unfolding front
returns c = let a = c.args in
    rw (c.copy_from_slice.ensures.after, length-take-le a.n a.own.now c.requires.0)
