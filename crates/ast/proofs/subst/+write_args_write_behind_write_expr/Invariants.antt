use Prim.Native.Nat.{◌+◌, ◌*◌}
use Rattle.ast.specs.Views.{nodes_seen}
use Rattle.ast.specs.Nodes.{size_at}
use Rattle.ast.proofs.subst.+write_args_write_behind_write_expr.Given as goal

abbrev pub decreases-write_args : goal.decreases-write_args
decreases-write_args l = 8192 * l.level + 4 * l.total + 2

abbrev pub decreases-write_behind : goal.decreases-write_behind
decreases-write_behind l = 8192 * l.level + 4 * size_at (nodes_seen l.ns.now) l.i + 1

abbrev pub decreases-write_expr : goal.decreases-write_expr
decreases-write_expr l = 8192 * l.level + 4 * size_at (nodes_seen l.ns.now) l.i
