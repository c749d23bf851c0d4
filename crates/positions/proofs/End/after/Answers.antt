use mathlib.Core.Path.{refl}
use native.Mathlib.Omega.{arith}
use Rattle.positions.proofs.Growing.{after_newline, after_other}
use Rattle.positions.proofs.End.after.Goals as goal

pub returns-then-byte-eq-NEWLINE : goal.returns-then-byte-eq-NEWLINE
returns-then-byte-eq-NEWLINE c = after_newline _ _ _ refl (omega arith) refl refl

pub returns : goal.returns
returns c = after_other _ _ _ refl c.if-byte-eq-NEWLINE.false refl refl
