use native.Mathlib.Omega.{arith}
use Rattle.ast.proofs.Opened.{ranges}
use Rattle.ast.proofs.Viewed.{bits_say}
use Rattle.ast.proofs.view.View.unknown_bits.Goals as goal

pub record_bits-requires : goal.record_bits-requires
record_bits-requires c = let v = c.args.self.now in
    (omega (arith, (ranges v.bytes.now v.sections v.opened).unknowns), c.requires.0, c.requires.1)

pub returns : goal.returns
returns c = let v = c.args.self.now in
    bits_say v.bytes.now v.sections v.opened c.args.i c.args.k _ c.record_bits.ensures
