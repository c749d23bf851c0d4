use borrow.Author.Rules.{rules}
use borrow.Author.Tests.{tests}
use Rattle.ast.specs.Nodes.{is_expr}
use Rattle.ast.proofs.ReadKinds.{expr_says}
use Rattle.ast.proofs.nodes.is_expr.Goals as goal

pub returns : goal.returns
unfolding is_expr
returns c = expr_says _ _ _ c.kind.ensures c.is_ok_and.ensures (λ k d. search (rules, tests))
