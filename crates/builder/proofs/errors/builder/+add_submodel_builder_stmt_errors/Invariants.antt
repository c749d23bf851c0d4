-- `builder::builder::builder` and the two functions that it calls in turn meet their contracts: statement by statement, a submodel's by the model that it calls. The measure is three times the depth, and one or two more for a statement.
use mathlib.Core.Path.{◌≡◌}
use Prim.Native.Nat.{ℕ, ◌+◌, ◌-◌, ◌*◌}
use lib.ListN.{take}
use Rattle.functions.specs.Lists.{each}
use Rattle.ast.specs.Views.{file_seen}
use Rattle.definitions.specs.Flatten.{model_at, stmt_errors, errors_of}
use Rattle.area.specs.LentList.{Listed}
use Rattle.builder.specs.Seen.{scope_seen}
use Rattle.builder.proofs.errors.builder.+add_submodel_builder_stmt_errors.Given as goal

abbrev pub decreases-add_submodel : goal.decreases-add_submodel
decreases-add_submodel l = 3 * l.k + 1

abbrev pub decreases-builder : goal.decreases-builder
decreases-builder l = 3 * l.k

abbrev pub decreases-stmt_errors : goal.decreases-stmt_errors
decreases-stmt_errors l = 3 * l.place.depth + 2

abbrev pub invariant-builder-loop-q : goal.invariant-builder-loop-q
invariant-builder-loop-q l = (i : ℕ) × (l.q ≡ l.first + i) × Listed l.initial.errors (each (stmt_errors (file_seen l.tables.names.file) (λ j. errors_of (file_seen l.tables.names.file) (l.k - 1) j) (scope_seen l.tables.names.file l.m)) (take i (model_at (file_seen l.tables.names.file) l.m).stmts)) l.errors
