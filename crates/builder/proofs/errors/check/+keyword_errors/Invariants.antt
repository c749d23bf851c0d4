-- `builder::check::keyword_errors` meets its contract: the earlier arguments' errors, then the last one's. The measure is the count of the arguments.
use Rattle.builder.proofs.errors.check.+keyword_errors.Given as goal

abbrev pub decreases-keyword_errors : goal.decreases-keyword_errors
decreases-keyword_errors l = l.run.args
