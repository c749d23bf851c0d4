use mathlib.Core.Path.{refl}
use native.Mathlib.Omega.{arith}
use Rattle.ast.specs.Words.{span_from}
use Rattle.area.specs.Sections.{stmts_at, vars_at, deps_at}
use Rattle.builder.specs.Starting.{right_span_in}
use Rattle.builder.proofs.errors.conditions.condition_error.Goals as goal

pub stmt-right-requires : goal.stmt-right-requires
unfolding stmts_at vars_at deps_at
stmt-right-requires c = let p = c.requires in
    (p.0.small, omega (arith, p.0.long), p.1, omega arith)

pub node_word-from-requires : goal.node_word-from-requires
unfolding stmts_at vars_at deps_at
node_word-from-requires c = let p = c.requires in
    (omega (arith, p.0.long), rw c.stmt-right.ensures.0 (p.0.right _ p.1), omega arith)

pub node_word-to-requires : goal.node_word-to-requires
unfolding stmts_at vars_at deps_at
node_word-to-requires c = let p = c.requires in
    (omega (arith, p.0.long), rw c.stmt-right.ensures.0 (p.0.right _ p.1), omega arith)

pub returns : goal.returns
unfolding span_from right_span_in
returns c = rw (c.node_word-from.ensures, c.node_word-to.ensures, c.stmt-right.ensures.0) refl
