use Rattle.std.proofs.Common.{rules, subst, sym}
use Rattle.std.specs.Io.KnownBytes.{Consumes}
use Rattle.std.proofs.KnownBytes.{Consumes-trans}
use Rattle.files.proofs.Taken.{taken}
use Rattle.files.proofs.read_full.Goals as goal

pub loop-done-preserved : goal.loop-done-preserved
loop-done-preserved g c = let inv = c.loop-done.invariant in let e = c.in_ok-n.ensures in (
  search rules,
  subst (Consumes _ _) (sym (taken c.loop-done.done c.in_ok-n.n c.loop-done.buffer c.read.new.buf _ inv.0 e.bound.0)) (Consumes-trans _ _ _ _ _ inv.1 e.bytes.0),
)
