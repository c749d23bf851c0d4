-- `flat_extent` and `stmt_extent` meet their contracts. The loop's invariant: the statements not passed yet, added to the extent so far, make up the whole. The measure goes by the depth.
use mathlib.Core.Path.{◌≡◌}
use Prim.Native.Nat.{ℕ, ◌+◌, ◌*◌}
use Rattle.builder.proofs.laws.Extents.{Counting}
use Rattle.builder.proofs.extent.counts.+flat_extent_stmt_extent.Given as goal

abbrev pub decreases-flat_extent : goal.decreases-flat_extent
decreases-flat_extent l = 2 * l.k

abbrev pub decreases-stmt_extent : goal.decreases-stmt_extent
decreases-stmt_extent l = 2 * l.k + 1

abbrev pub invariant-flat_extent-loop-q : goal.invariant-flat_extent-loop-q
invariant-flat_extent-loop-q l = (i : ℕ) × (l.q ≡ l.first + i) × Counting l.calls.file.bytes.now l.calls.file.sections l.k l.m l.initial.rows l.level l.initial.total l.rows l.total i
