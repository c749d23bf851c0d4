use mathlib.Core.Path.{◌≡◌}
use Prim.Native.Nat.{◌≤◌, ◌^◌}
use lib.ListN.{drop}
use Rattle.ast.specs.Views.{nodes_seen}
use Rattle.ast.specs.Words.{section}
use Rattle.ast.specs.Records.{stmts_fit}
use Rattle.ast.proofs.stmts.stmts_fit.Given as goal

abbrev pub invariant-loop-i : goal.invariant-loop-i
invariant-loop-i l = (l.first ≤ 2 ^ 32) × (stmts_fit l.names l.ns.nodes.count (nodes_seen l.ns) 0 (section 6 l.n l.at l.ns.bytes.now) ≡ stmts_fit l.names l.ns.nodes.count (nodes_seen l.ns) l.first (drop l.i (section 6 l.n l.at l.ns.bytes.now)))
