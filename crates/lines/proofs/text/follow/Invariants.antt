use Rattle.std.proofs.Common.{◌≡◌, ◌+◌, ◌-◌, ◌^◌, length}
use Rattle.positions.specs.Pieces.{starts, Standing}
use Rattle.lines.proofs.text.follow.Given as goal

abbrev pub invariant-loop-end : goal.invariant-loop-end
invariant-loop-end g l = (length l.piece ≡ length l.initial.piece) × Standing l.end (starts l.initial.entries) l.entries

abbrev pub decreases-loop-end : goal.decreases-loop-end
decreases-loop-end g l = 2 ^ 32 + 2 ^ 16 - l.end.size
