use native.Mathlib.Omega.{arith}
use Rattle.area.specs.Sections.{stmts_at, vars_at, deps_at}
use Rattle.narrow.proofs.tests.the_state_without_a_rate_equation_is_lacking.Goals as goal

pub lacking-states-requires : goal.lacking-states-requires
unfolding stmts_at vars_at deps_at
lacking-states-requires g c = (record { nodes = omega arith; stmts = omega arith; vars = omega arith; deps = omega arith }, omega (arith, c.put_word-2.auto, c.put_word.auto))
