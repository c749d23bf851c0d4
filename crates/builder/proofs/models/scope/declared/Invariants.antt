use mathlib.Core.Path.{◌≡◌}
use Prim.Native.Nat.{ℕ, ◌+◌}
use mathlib.Core.List.{[], ◌∷◌}
use lib.ListN.{take}
use Rattle.ast.specs.Opens.{file_in}
use Rattle.definitions.specs.Names.{time_name}
use Rattle.definitions.specs.Variables.{declare}
use Rattle.definitions.specs.Flatten.{model_at}
use Rattle.builder.specs.Tables.{Marks}
use Rattle.builder.proofs.models.scope.declared.Given as goal

abbrev pub invariant-loop-u : goal.invariant-loop-u
invariant-loop-u l = (i : ℕ) × (l.u ≡ l.first + i) × Marks l.names.file.sections.counts.names (declare (file_in l.names.file.bytes.now l.names.file.sections).names (time_name (file_in l.names.file.bytes.now l.names.file.sections).names ∷ []) (take i (model_at (file_in l.names.file.bytes.now l.names.file.sections) l.m).unknowns)) l.out
