use mathlib.Core.Path.{◌≡◌}
use Prim.Native.Nat.{◌≤◌}
use lib.ListN.{drop}
use Rattle.ast.specs.Words.{section}
use Rattle.ast.specs.Records.{unknowns_fit}
use Rattle.ast.proofs.unknowns.unknowns_fit.Given as goal

abbrev pub invariant-loop-i : goal.invariant-loop-i
invariant-loop-i l = (l.first ≤ l.limit) × (unknowns_fit l.names l.limit 0 (section 10 l.unknowns.count l.unknowns.at l.unknowns.bytes.now) ≡ unknowns_fit l.names l.limit l.first (drop l.i (section 10 l.unknowns.count l.unknowns.at l.unknowns.bytes.now)))
