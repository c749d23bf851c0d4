use native.Mathlib.Omega.{arith}
use Prim.Native.Nat.{◌+◌, ◌-◌, ◌*◌}
use Rattle.ast.proofs.Seen.{pick_zero, pick_more}
use Rattle.ast.proofs.subst.upward.Goals as goal

pub overflow_cast-t : goal.overflow_cast-t
overflow_cast-t c = omega (arith, c.shared_slice_known-1.given (256 * (c.args.level - 1) + c.args.x))

pub returns-then-t-eq0 : goal.returns-then-t-eq0
returns-then-t-eq0 c = pick_zero _ _ c.if-t-eq0.true

pub returns-else-t-eq0 : goal.returns-else-t-eq0
returns-else-t-eq0 c = pick_more _ _ c.if-t-eq0.false
