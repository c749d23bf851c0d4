use Rattle.ast.proofs.Opened.{ranges}
use Rattle.ast.proofs.Viewed.{model_says}
use Rattle.ast.proofs.view.View.model.Goals as goal

pub invariant_of-models : goal.invariant_of-models
invariant_of-models c = let v = c.args.self.now in
    record { lie = (ranges v.bytes.now v.sections v.opened).models }

pub returns : goal.returns
returns c = let v = c.args.self.now in
    model_says v.bytes.now v.sections v.opened c.args.i c.args.k c.word.result c.word.ensures
