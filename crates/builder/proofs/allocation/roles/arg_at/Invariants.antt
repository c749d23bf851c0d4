use mathlib.Core.Bool.{true}
use mathlib.Core.Path.{◌≡◌}
use Prim.Native.Nat.{ℕ, ◌+◌, ◌-◌, ◌≤◌}
use Rattle.ast.specs.Nodes.{op_at, args_fit}
use Rattle.builder.specs.Allocating.{arg_node}
use Rattle.area.specs.Views.{nodes_seen}
use Rattle.builder.proofs.allocation.roles.arg_at.Given as goal

abbrev pub invariant-loop : goal.invariant-loop
invariant-loop l = (l.end ≤ l.area.sizes.nodes) × ((total : ℕ) × (args_fit (nodes_seen l.area) l.end (l.left + (l.i + 1) - l.counter) total ≡ true)) × (arg_node (nodes_seen l.area) l.i l.call (op_at (nodes_seen l.area) l.call) ≡ arg_node (nodes_seen l.area) l.i l.end (l.left + (l.i + 1) - l.counter))
