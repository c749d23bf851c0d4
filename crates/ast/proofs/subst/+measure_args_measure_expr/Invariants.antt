use Prim.Native.Nat.{◌+◌, ◌*◌}
use Rattle.ast.specs.Views.{nodes_seen}
use Rattle.ast.specs.Nodes.{size_at}
use Rattle.ast.proofs.subst.+measure_args_measure_expr.Given as goal

abbrev pub decreases-measure_args : goal.decreases-measure_args
decreases-measure_args l = 8192 * l.level + 2 * l.total + 1

abbrev pub decreases-measure_expr : goal.decreases-measure_expr
decreases-measure_expr l = 8192 * l.level + 2 * size_at (nodes_seen l.ns.now) l.i
