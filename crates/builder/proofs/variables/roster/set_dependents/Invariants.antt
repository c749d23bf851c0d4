use mathlib.Core.Path.{◌≡◌}
use Prim.Native.Nat.{ℕ, ◌+◌}
use Rattle.builder.specs.VariableTables.{unknowns_in, roster_in}
use Rattle.builder.proofs.laws.PutWords.{of_named, Runs}
use Rattle.builder.proofs.variables.roster.set_dependents.Given as goal

abbrev pub invariant-loop-u : goal.invariant-loop-u
invariant-loop-u l = (i : ℕ) × (l.u ≡ l.first + i) × Runs (of_named (roster_in l.file.bytes.now l.file.sections l.m) l.name) (unknowns_in l.file.bytes.now l.file.sections l.m) l.initial.out l.done i l.out l.total
