-- `builder::check::check_args` and `builder::check::check_expr` meet their contracts: by the kind of the node, and argument by argument. The measure is twice the size, and one more for arguments.
use Prim.Native.Nat.{◌+◌, ◌*◌}
use Rattle.ast.specs.Nodes.{size_at}
use Rattle.builder.specs.Seen.{nodes_checked}
use Rattle.builder.proofs.errors.check.+check_args_check_expr.Given as goal

abbrev pub decreases-check_args : goal.decreases-check_args
decreases-check_args l = 2 * l.run.total + 1

abbrev pub decreases-check_expr : goal.decreases-check_expr
decreases-check_expr l = 2 * size_at (nodes_checked l.at.now) l.i
