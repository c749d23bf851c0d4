use Rattle.ast.proofs.Opened.{ranges}
use Rattle.ast.proofs.Viewed.{dep_says}
use Rattle.ast.proofs.view.View.dep.Goals as goal

pub dep_word-requires : goal.dep_word-requires
dep_word-requires c = let v = c.args.self.now in
    ((ranges v.bytes.now v.sections v.opened).deps, c.requires)

pub returns : goal.returns
returns c = let v = c.args.self.now in
    (dep_says v.bytes.now v.sections v.opened c.args.i 0 c.dep_word.result c.dep_word.ensures.0, c.dep_word.ensures.1)
