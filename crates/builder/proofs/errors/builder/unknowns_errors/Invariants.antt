-- `builder::builder::unknowns_errors` meets its contract: unknown by unknown.
use mathlib.Core.Path.{◌≡◌}
use Prim.Native.Nat.{ℕ, ◌+◌}
use lib.ListN.{take}
use Rattle.functions.specs.Lists.{each}
use Rattle.ast.specs.Opens.{file_in}
use Rattle.definitions.specs.Variables.{unknown_errors}
use Rattle.definitions.specs.Flatten.{model_at}
use Rattle.area.specs.LentList.{Listed}
use Rattle.builder.proofs.errors.builder.unknowns_errors.Given as goal

abbrev pub invariant-loop-u : goal.invariant-loop-u
invariant-loop-u l = (i : ℕ) × (l.u ≡ l.first + i) × Listed l.initial.errors (each (unknown_errors (file_in l.names.file.bytes.now l.names.file.sections).names) (take i (model_at (file_in l.names.file.bytes.now l.names.file.sections) l.m).unknowns)) l.errors
