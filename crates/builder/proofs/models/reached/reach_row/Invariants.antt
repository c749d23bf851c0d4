use mathlib.Core.Path.{◌≡◌}
use Prim.Native.Nat.{ℕ, ◌+◌}
use Rattle.ast.specs.Opens.{file_in}
use Rattle.builder.proofs.laws.Rounds.{Rowed}
use Rattle.builder.proofs.models.reached.reach_row.Given as goal

abbrev pub invariant-loop-q : goal.invariant-loop-q
invariant-loop-q l = (i : ℕ) × (l.q ≡ l.first + i) × Rowed (file_in l.calls.file.bytes.now l.calls.file.sections) l.calls.file.sections.counts.models l.old l.a i l.new
