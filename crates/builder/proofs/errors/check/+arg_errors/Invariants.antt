-- `builder::check::arg_errors` meets its contract: the earlier arguments' errors, then the last one's: positional or named. The measure is the count of the arguments.
use Rattle.builder.proofs.errors.check.+arg_errors.Given as goal

abbrev pub decreases-arg_errors : goal.decreases-arg_errors
decreases-arg_errors l = l.run.args
