use lib.ListN.{take}
use Rattle.positions.specs.Pieces.{Passed}
use Rattle.positions.proofs.End.walk.Given as goal

abbrev pub invariant-loop-byte : goal.invariant-loop-byte
invariant-loop-byte l = Passed l.initial.at (take l.byte-index l.piece) l.at
