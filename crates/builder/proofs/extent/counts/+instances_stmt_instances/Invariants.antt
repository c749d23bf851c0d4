-- `instances` and `stmt_instances` meet their contracts. The loop's invariant: the total is that of the statements passed, at most the most. The measure goes by the depth.
use mathlib.Core.Path.{◌≡◌}
use Prim.Native.Nat.{ℕ, ◌+◌, ◌-◌, ◌*◌}
use lib.ListN.{take}
use Rattle.functions.specs.Lists.{sum_of}
use Rattle.ast.specs.Opens.{file_in}
use Rattle.ast.specs.Rows.{at_most}
use Rattle.definitions.specs.Flatten.{model_at}
use Rattle.builder.proofs.laws.Amounts.{called_instances}
use Rattle.builder.proofs.extent.counts.+instances_stmt_instances.Given as goal

abbrev pub decreases-instances : goal.decreases-instances
decreases-instances l = 2 * l.k

abbrev pub decreases-stmt_instances : goal.decreases-stmt_instances
decreases-stmt_instances l = 2 * l.k + 1

abbrev pub invariant-instances-loop-q : goal.invariant-instances-loop-q
invariant-instances-loop-q l = (i : ℕ) × (l.q ≡ l.first + i) × (l.total ≡ at_most l.most (1 + sum_of (called_instances (file_in l.calls.file.bytes.now l.calls.file.sections) (l.k - 1)) (take i (model_at (file_in l.calls.file.bytes.now l.calls.file.sections) l.m).stmts)))
