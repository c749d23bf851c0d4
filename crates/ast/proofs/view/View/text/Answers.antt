use Rattle.ast.proofs.Opened.{ranges}
use Rattle.ast.proofs.Viewed.{names_lie, text_says}
use Rattle.ast.proofs.view.View.text.Goals as goal

pub invariant_of-section : goal.invariant_of-section
invariant_of-section c = let v = c.args.self.now in
    record { lie = (ranges v.bytes.now v.sections v.opened).names }

pub invariant_of-name_text : goal.invariant_of-name_text
invariant_of-name_text c = let v = c.args.self.now in
    record { lie = names_lie v.bytes.now v.sections v.opened }

pub returns : goal.returns
returns c = let v = c.args.self.now in
    text_says v.bytes.now v.sections v.opened c.args.i _ c.name_text.ensures
