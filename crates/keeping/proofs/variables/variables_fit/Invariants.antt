use mathlib.Core.Path.{◌≡◌}
use Prim.Native.Nat.{◌≤◌}
use lib.ListN.{drop}
use Rattle.ast.specs.Views.{records_seen}
use Rattle.definitions.specs.Layout.{variables_fit}
use Rattle.keeping.proofs.variables.variables_fit.Given as goal

abbrev pub invariant-loop-i : goal.invariant-loop-i
invariant-loop-i l = (l.first ≤ l.deps) × (variables_fit l.stmts l.deps 0 (records_seen l.rs) ≡ variables_fit l.stmts l.deps l.first (drop l.i (records_seen l.rs)))
