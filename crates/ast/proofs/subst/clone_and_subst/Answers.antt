use mathlib.Core.Path.{sym, ◌∙◌}
use Rattle.ast.specs.Views.{nodes_seen}
use Rattle.ast.specs.Rows.{spanning, read}
use Rattle.ast.proofs.Seen.{size_respan}
use Rattle.ast.proofs.subst.clone_and_subst.Goals as goal

pub write_expr-requires : goal.write_expr-requires
write_expr-requires c = let a = c.args in let p = c.requires in
    (p.0, rw (size_respan (spanning a.from a.to) (read (nodes_seen a.ns.now) a.rows.now a.level a.i)) at p.1)

pub returns : goal.returns
returns c = let a = c.args in
    (c.write_expr.ensures.0 ∙ sym (size_respan (spanning a.from a.to) (read (nodes_seen a.ns.now) a.rows.now a.level a.i)), c.write_expr.ensures.1)
