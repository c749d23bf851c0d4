use mathlib.Core.Path.{◌≡◌}
use mathlib.Core.List.{map}
use lib.ListN.{take}
use Rattle.ast.specs.Bytes.{front}
use Rattle.ast.specs.Views.{records_seen}
use Rattle.positions.specs.Pieces.{starts, places}
use Rattle.report.specs.Lines.{start_of_error}
use Rattle.report.proofs.starts.note_starts.Given as goal

abbrev pub invariant-loop-i : goal.invariant-loop-i
invariant-loop-i l = (starts l.entries ≡ front (starts l.initial.entries) (map start_of_error (take l.i (records_seen l.es))))
    × (places l.entries ≡ places l.initial.entries)
