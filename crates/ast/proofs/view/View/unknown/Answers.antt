use Rattle.ast.proofs.Opened.{ranges}
use Rattle.ast.proofs.Viewed.{unknown_says}
use Rattle.ast.proofs.view.View.unknown.Goals as goal

pub invariant_of-unknowns : goal.invariant_of-unknowns
invariant_of-unknowns c = let v = c.args.self.now in
    record { lie = (ranges v.bytes.now v.sections v.opened).unknowns }

pub returns : goal.returns
returns c = let v = c.args.self.now in
    unknown_says v.bytes.now v.sections v.opened c.args.i c.args.k c.word.result c.word.ensures
