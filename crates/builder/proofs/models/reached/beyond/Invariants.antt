use mathlib.Core.Path.{◌≡◌}
use mathlib.Core.Bool.{true}
use Prim.Native.Nat.{ℕ, ◌-◌, ◌≤◌}
use Rattle.ast.specs.Nodes.{op_at, size_at, args_fit, args_before}
use Rattle.ast.specs.Opens.{contents_in}
use Rattle.definitions.specs.Flatten as flatten
use Rattle.builder.proofs.models.reached.beyond.Given as goal

abbrev pub invariant-loop-left : goal.invariant-loop-left
invariant-loop-left l = (total : ℕ) × (l.end ≤ l.file.sections.counts.nodes) × (args_fit (contents_in l.file.bytes.now l.file.sections).nodes l.end l.left total ≡ true) × (flatten.args_beyond l.n (args_before (contents_in l.file.bytes.now l.file.sections).nodes l.call (op_at (contents_in l.file.bytes.now l.file.sections).nodes l.call) (size_at (contents_in l.file.bytes.now l.file.sections).nodes l.call - 1)) ≡ flatten.args_beyond l.n (args_before (contents_in l.file.bytes.now l.file.sections).nodes l.end l.left total))
