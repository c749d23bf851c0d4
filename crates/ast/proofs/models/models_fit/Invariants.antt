use mathlib.Core.Path.{◌≡◌}
use Prim.Native.Nat.{◌≤◌}
use lib.ListN.{drop}
use Rattle.ast.specs.Words.{section}
use Rattle.ast.specs.Records.{models_fit}
use Rattle.ast.proofs.models.models_fit.Given as goal

abbrev pub invariant-loop-i : goal.invariant-loop-i
invariant-loop-i l = (l.u ≤ l.unknowns) × (l.q ≤ l.stmts) × (models_fit l.names l.unknowns l.stmts 0 0 (section 7 l.models.count l.models.at l.models.bytes.now) ≡ models_fit l.names l.unknowns l.stmts l.u l.q (drop l.i (section 7 l.models.count l.models.at l.models.bytes.now)))
