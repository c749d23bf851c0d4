use mathlib.Core.Path.{◌≡◌}
use Prim.Native.Nat.{◌<◌}
use lib.ListN.{drop}
use Rattle.ast.specs.Hashes.{hash_from, hash_of}
use Rattle.ast.proofs.names.hash_of.Given as goal

abbrev pub invariant-loop-byte : goal.invariant-loop-byte
invariant-loop-byte l = (l.hash < 1024) × (hash_of l.text ≡ hash_from l.hash (drop l.byte-index l.text))
