use native.Mathlib.Omega.{arith}
use mathlib.Core.Path.{◌∙◌}
use Rattle.builder.proofs.laws.BoundLaws.{bits_put}
use Rattle.builder.proofs.variables.bounds.put_bits.Goals as goal

pub returns : goal.returns
returns c = let a = c.args in
    bits_put a.bits a.out.now _ a.place _ (omega arith) (c.copy_from_slice.ensures.after ∙ c.to_le_bytes.ensures) (omega arith)
