use mathlib.Core.List.{[]}
use native.Mathlib.Omega.{arith}
use Rattle.ast.specs.Rows.{at_most}
use Rattle.builder.proofs.laws.Extents.{own_extended}
use Rattle.builder.proofs.extent.counts.own_extent.Goals as goal

pub overflow_add-nodes : goal.overflow_add-nodes
unfolding at_most
overflow_add-nodes c = omega (arith, c.own_nodes.ensures (λ j. []), c.requires.1.nodes)

pub returns : goal.returns
unfolding at_most
returns c = let a = c.args in
    let p = c.requires in
    own_extended a.file.now.bytes.now a.file.now.sections a.rows.now a.level a.q p.0 a.done p.1 _ _ (omega (arith, c.min-stmts.ensures)) c.own_nodes.ensures
