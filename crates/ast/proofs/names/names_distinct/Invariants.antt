use mathlib.Core.Path.{◌≡◌}
use mathlib.Core.Bool.{true}
use lib.ListN.{drop}
use Rattle.ast.specs.Views.{names_seen}
use Rattle.ast.specs.Records.{distinct}
use Rattle.ast.specs.Hashes.{Noted}
use Rattle.ast.proofs.names.names_distinct.Given as goal

abbrev pub invariant-loop-i : goal.invariant-loop-i
invariant-loop-i l = (distinct (drop l.i (names_seen l.names)) ≡ true) × Noted (names_seen l.names) l.i l.noted
