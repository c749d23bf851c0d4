use Rattle.ast.proofs.Viewed.{node_says}
use Rattle.ast.proofs.view.View.node.Goals as goal

pub word-requires : goal.word-requires
word-requires c = rw c.nodes.ensures.0 c.requires

pub returns : goal.returns
returns c = let v = c.args.self.now in
    node_says v.bytes.now v.sections v.opened c.args.i c.args.k c.word.result (rw (c.nodes.ensures.0, c.nodes.ensures.1) at c.word.ensures)
