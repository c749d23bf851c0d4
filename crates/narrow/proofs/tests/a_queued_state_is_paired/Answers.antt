use mathlib.Core.Path.{refl}
use native.Mathlib.Omega.{arith}
use Rattle.area.specs.Sections.{stmts_at, vars_at}
use Rattle.narrow.proofs.tests.a_queued_state_is_paired.Goals as goal

pub write_fates-requires : goal.write_fates-requires
unfolding stmts_at vars_at
write_fates-requires g c = (record { nodes = omega arith; stmts = omega arith; vars = omega arith; deps = omega arith }, omega arith, refl)
