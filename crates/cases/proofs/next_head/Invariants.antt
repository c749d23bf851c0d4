use Rattle.std.proofs.Common.{◌≡◌, length, take}
use Rattle.cases.specs.Words.{TakesWords}
use Rattle.cases.proofs.next_head.Given as goal

abbrev pub invariant-loop-word : goal.invariant-loop-word
invariant-loop-word g l = (length l.word-items ≡ g.row.N) × TakesWords (g.R.Read.remaining l.fn.input) (g.R.Read.remaining l.input) (take l.word-index l.word-items)
