use mathlib.Core.Path.{◌≡◌}
use mathlib.Core.List.{[], ◌++◌, map}
use lib.ListN.{take, drop}
use Rattle.positions.proofs.Entries.{seen}
use Rattle.positions.proofs.tables.begin.Given as goal

abbrev pub invariant-loop-entry : goal.invariant-loop-entry
invariant-loop-entry l = l.entries ≡ map (seen []) (take l.entry-index l.initial.entries) ++ drop l.entry-index l.initial.entries
