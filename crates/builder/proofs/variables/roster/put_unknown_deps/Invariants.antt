use mathlib.Core.Path.{◌≡◌}
use Prim.Native.Nat.{ℕ, ◌+◌}
use Rattle.builder.specs.VariableTables.{unknown_in}
use Rattle.builder.proofs.laws.PutWords.{numbered, Runs}
use Rattle.builder.proofs.variables.roster.put_unknown_deps.Given as goal

abbrev pub invariant-loop-d : goal.invariant-loop-d
invariant-loop-d l = (i : ℕ) × (l.d ≡ l.first + i) × Runs (numbered l.numbers) (unknown_in l.file.bytes.now l.file.sections l.u).deps l.initial.out l.done i l.out l.total
