use native.Mathlib.Omega.{arith}
use Rattle.builder.proofs.laws.BoundLaws.{both_put}
use Rattle.builder.proofs.variables.bounds.put_bounds.Goals as goal

pub returns : goal.returns
returns c = let a = c.args in
    both_put a.file.now.bytes.now a.file.now.sections a.u a.b a.out.now _ _ a.place _ _ c.bound_bits.ensures c.bound_bits-2.ensures (omega arith) c.put_bits.ensures c.put_bits-2.ensures
