use mathlib.Core.Path.{◌≡◌}
use Prim.Native.Nat.{◌+◌}
use lib.ListN.{drop}
use Rattle.functions.specs.Lists.{one_of}
use Rattle.ast.specs.Views.{name_seen, names_seen}
use Rattle.ast.proofs.names.name_again.Given as goal

abbrev pub invariant-loop-j : goal.invariant-loop-j
invariant-loop-j l = one_of (name_seen l.names l.i) (drop (l.i + 1) (names_seen l.names)) ≡ one_of (name_seen l.names l.i) (drop l.j (names_seen l.names))
