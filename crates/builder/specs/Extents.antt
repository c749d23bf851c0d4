-- How big flattened statements are, each number counted as the descent goes and to one more than its most.
use Rattle.std.specs.Prelude.{◌+◌, ◌≤◌, ◌≡◌, List, length}
use Rattle.functions.specs.Lists.{sum_of}
use Rattle.ast.specs.Tree.{Flat, flat_size}
use Rattle.ast.specs.Rows.{at_most}
use Rattle.definitions.specs.Numbers.{most_nodes, most_stmts}
use Rattle.builder.specs.declared.extent.counts.FlatExtent.{FlatExtent}

-- Each number is at most one more than its most.
pub record Counted (e : FlatExtent) : Type 0 where
  pub stmts : e.stmts ≤ most_stmts + 1
  pub nodes : e.nodes ≤ most_nodes + 1

-- The extent of flattened statements added to one, each number counted to one more than its most.
pub record Extended (done : FlatExtent) (qs : List Flat) (r : FlatExtent) : Type 0 where
  pub stmts : r.stmts ≡ at_most (most_stmts + 1) (done.stmts + length qs)
  pub nodes : r.nodes ≡ at_most (most_nodes + 1) (done.nodes + sum_of flat_size qs)
