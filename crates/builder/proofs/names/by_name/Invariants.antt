use Rattle.builder.proofs.laws.Filled.{FilledAs}
use Rattle.builder.proofs.names.by_name.Given as goal

abbrev pub invariant-loop-n : goal.invariant-loop-n
invariant-loop-n g l = FilledAs l.fn.other 256 (λ n x. goal.F-post g l.fn.of n x) l.n l.out
