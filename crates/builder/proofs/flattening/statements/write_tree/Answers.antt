use mathlib.Core.Path.{refl}
use native.Mathlib.Omega.{arith}
use lib.ListN.{length-take, length-drop}
use Rattle.builder.proofs.laws.Descents.{readable}
use Rattle.builder.proofs.laws.Putting.{bearing_size, tree_put}
use Rattle.builder.proofs.flattening.statements.write_tree.Goals as goal

pub clone_and_subst-requires : goal.clone_and_subst-requires
clone_and_subst-requires c = let a = c.args in
    let p = c.requires in
    let z = bearing_size a.file.now.bytes.now a.file.now.sections c.args.file.now.opened a.rows.now a.level a.i c.node-from.result c.node-to.result in
    rw (c.nodes-nodes.ensures.0, c.nodes-nodes.ensures.1) (readable a.file.now.bytes.now a.file.now.sections c.args.file.now.opened a.rows.now a.level p.1 _ _ refl (p.0.within, p.0.expr), record { few = omega (arith, z, p.2.few); held = simp (length-take, length-drop) (omega (arith, z, p.2.fit)) })

pub overflow_add-result : goal.overflow_add-result
overflow_add-result c = let a = c.args in
    let p = c.requires in
    let z = bearing_size a.file.now.bytes.now a.file.now.sections c.args.file.now.opened a.rows.now a.level a.i c.node-from.result c.node-to.result in
    let r = rw (c.nodes-nodes.ensures.0, c.nodes-nodes.ensures.1) at c.clone_and_subst.ensures in
    omega (arith, z, p.2.few, r.0)

pub returns : goal.returns
returns c = let a = c.args in
    let p = c.requires in
    tree_put a.file.now.bytes.now a.file.now.sections c.args.file.now.opened a.rows.now a.level a.i _ _ a.out.now _ a.done _ (omega (arith, p.2.fit)) p.0.within p.0.expr c.node-from.ensures.0 c.node-to.ensures.0 (rw (c.nodes-nodes.ensures.0, c.nodes-nodes.ensures.1) at c.clone_and_subst.ensures)
