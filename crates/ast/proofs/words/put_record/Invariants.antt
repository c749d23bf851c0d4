use mathlib.Core.Path.{◌≡◌}
use lib.ListN.{take}
use Rattle.ast.specs.Words.{bytes_of}
use Rattle.ast.specs.Bytes.{front}
use Rattle.ast.proofs.words.put_record.Given as goal

abbrev pub invariant-loop-k : goal.invariant-loop-k
invariant-loop-k t l = l.out ≡ front l.initial.out (bytes_of (take l.k l.words))
