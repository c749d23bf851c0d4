-- `builder::builder::order_errors` meets its contract: the earlier arguments' errors, then the last one's. The measure is the count of the arguments.
use Rattle.builder.proofs.errors.builder.+order_errors.Given as goal

abbrev pub decreases-order_errors : goal.decreases-order_errors
decreases-order_errors l = l.run.args
