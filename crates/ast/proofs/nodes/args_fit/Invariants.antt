use mathlib.Core.Path.{◌≡◌}
use Prim.Native.Nat.{◌≤◌, ◌-◌}
use Rattle.ast.specs.Views.{nodes_seen}
use Rattle.ast.specs.Nodes.{args_fit}
use Rattle.ast.proofs.nodes.args_fit.Given as goal

abbrev pub invariant-loop : goal.invariant-loop
invariant-loop l = (l.end ≤ l.ns.nodes.count) × (args_fit (nodes_seen l.ns) l.j l.count l.sum ≡ args_fit (nodes_seen l.ns) l.end (l.count - l.counter) l.total)
