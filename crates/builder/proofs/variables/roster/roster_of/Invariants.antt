use mathlib.Core.Path.{◌≡◌}
use Prim.Native.Nat.{ℕ, ◌+◌, ◌≤◌}
use lib.ListN.{drop}
use Rattle.ast.specs.Opens.{file_in}
use Rattle.definitions.specs.Variables.{declare}
use Rattle.area.specs.Sections.{Grown, area_vars, VarsAre}
use Rattle.builder.specs.VariableTables.{Listing, unknowns_in, roster_in}
use Rattle.builder.specs.Allocating.{names_in}
use Rattle.builder.proofs.variables.roster.roster_of.Given as goal

abbrev pub invariant-loop-u : goal.invariant-loop-u
invariant-loop-u l = (i : ℕ) × (l.u ≡ l.first + i) × (l.z.vars ≤ i + 1) × Grown (record { nodes = l.n; stmts = l.q; vars = 1; deps = 0 }) l.z
    × (Listing (names_in l.area l.z) (names_in l.area l.z) l.numbers × (roster_in l.names.file.bytes.now l.names.file.sections l.m ≡ declare (file_in l.names.file.bytes.now l.names.file.sections).names (names_in l.area l.z) (drop i (unknowns_in l.names.file.bytes.now l.names.file.sections l.m))))
    × VarsAre l.z l.initial.area (area_vars l.area l.z) l.area
