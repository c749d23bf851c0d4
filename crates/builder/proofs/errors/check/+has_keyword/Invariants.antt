-- `builder::check::has_keyword` meets its contract: the last argument bears one, or one before it does. The measure is the count of the arguments.
use Rattle.builder.proofs.errors.check.+has_keyword.Given as goal

abbrev pub decreases-has_keyword : goal.decreases-has_keyword
decreases-has_keyword l = l.run.args
