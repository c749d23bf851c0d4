use mathlib.Core.Path.{◌≡◌}
use Prim.Native.Nat.{◌≤◌, ◌^◌}
use lib.ListN.{drop}
use Rattle.ast.specs.Views.{records_seen, nodes_seen}
use Rattle.definitions.specs.Layout.{rows_fit}
use Rattle.keeping.proofs.stmts.rows_fit.Given as goal

abbrev pub invariant-loop-i : goal.invariant-loop-i
invariant-loop-i l = (l.first ≤ 2 ^ 32)
    × (rows_fit l.ns.nodes.count (nodes_seen l.ns) l.vars 0 (records_seen l.rs) ≡ rows_fit l.ns.nodes.count (nodes_seen l.ns) l.vars l.first (drop l.i (records_seen l.rs)))
