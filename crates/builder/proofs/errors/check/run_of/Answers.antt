-- `builder::check::run_of` meets its contract: by the call's node.
use native.Mathlib.Omega.{arith}
use Rattle.builder.proofs.laws.Calls.{call_sized}
use Rattle.builder.proofs.errors.check.run_of.Goals as goal

pub overflow_sub-total : goal.overflow_sub-total
overflow_sub-total c = omega (arith, c.word-total.ensures.0, call_sized c.requires.1)
