use mathlib.Core.Path.{◌≡◌}
use lib.ListN.{drop}
use Rattle.functions.specs.Tables.{value_among}
use Rattle.functions.proofs.value_of.Given as goal

abbrev pub invariant-loop-known : goal.invariant-loop-known
invariant-loop-known t l = value_among l.other l.table l.name ≡ value_among l.other (drop l.known-index l.table) l.name
