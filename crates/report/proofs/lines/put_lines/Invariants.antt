use mathlib.Core.Path.{◌≡◌}
use Prim.Native.Nat.{◌*◌, ◌≤◌}
use lib.ListN.{length, take}
use Rattle.ast.specs.Bytes.{front}
use Rattle.ast.specs.Views.{records_seen}
use Rattle.report.specs.Lines.{most_line}
use Rattle.report.specs.Tabled.{tabled_lines}
use Rattle.report.proofs.lines.put_lines.Given as goal

abbrev pub invariant-loop-i : goal.invariant-loop-i
invariant-loop-i l = (l.at ≤ l.i * most_line) × (l.at ≡ length (tabled_lines l.entries (take l.i (records_seen l.es))))
    × (l.out ≡ front l.initial.out (tabled_lines l.entries (take l.i (records_seen l.es))))
