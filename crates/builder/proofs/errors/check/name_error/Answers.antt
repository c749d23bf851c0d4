-- `builder::check::name_error` meets its contract: by the entry of the name.
use Rattle.builder.specs.Checking.{name_absent}
use Rattle.builder.proofs.errors.check.name_error.Goals as goal

pub returns : goal.returns
unfolding name_absent
returns c = rw c.word-name.ensures.0 at c.found_at.ensures
