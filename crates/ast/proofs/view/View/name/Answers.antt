use Rattle.ast.proofs.Opened.{ranges}
use Rattle.ast.proofs.Viewed.{name_says}
use Rattle.ast.proofs.view.View.name.Goals as goal

pub invariant_of-names : goal.invariant_of-names
invariant_of-names c = let v = c.args.self.now in
    record { lie = (ranges v.bytes.now v.sections v.opened).names }

pub returns : goal.returns
returns c = let v = c.args.self.now in
    name_says v.bytes.now v.sections v.opened c.args.i c.args.k c.word.result c.word.ensures
