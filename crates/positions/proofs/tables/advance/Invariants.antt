use mathlib.Core.Path.{◌≡◌}
use mathlib.Core.List.{List, ◌++◌, map}
use Prim.Native.Nat.{ℕ}
use lib.ListN.{take, drop}
use Rattle.positions.specs.Pieces.{EndOf, starts, placed}
use Rattle.positions.proofs.Entries.{seen}
use Rattle.positions.proofs.tables.advance.Given as goal

abbrev pub invariant-loop-entry : goal.invariant-loop-entry
invariant-loop-entry l = (starts l.entries ≡ starts l.initial.entries)
    × ((t ss : List ℕ) → EndOf l.end t → l.initial.entries ≡ placed t ss
    → l.entries ≡ map (seen (t ++ l.piece)) (take l.entry-index l.initial.entries) ++ drop l.entry-index l.initial.entries)
