use mathlib.Core.Path.{◌≡◌}
use Prim.Native.Nat.{ℕ, ◌+◌}
use lib.ListN.{take}
use Rattle.ast.specs.Opens.{file_in}
use Rattle.definitions.specs.Variables.{variable_names}
use Rattle.definitions.specs.Flatten.{model_at}
use Rattle.builder.proofs.laws.ScopeTables.{Counted}
use Rattle.builder.proofs.models.scope.model_vars.Given as goal

abbrev pub invariant-loop-u : goal.invariant-loop-u
invariant-loop-u l = (i : ℕ) × (l.u ≡ l.first + i) × Counted l.names.file.sections.counts.names (variable_names (file_in l.names.file.bytes.now l.names.file.sections).names (model_at (file_in l.names.file.bytes.now l.names.file.sections) l.m).unknowns) (take i (model_at (file_in l.names.file.bytes.now l.names.file.sections) l.m).unknowns) l.out
