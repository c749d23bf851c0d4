use Rattle.ast.specs.Kinds.{ReadAs}
use Rattle.ast.proofs.ReadKinds.{domain_read}
use Rattle.ast.proofs.view.View.domain.Goals as goal

pub unreachable-requires : goal.unreachable-requires
unfolding ReadAs
unreachable-requires c = let v = c.args.self.now in
    domain_read v.bytes.now v.sections v.opened c.args.i c.requires (rw c.unknown.ensures.0 at c.in-Err.ensures)
