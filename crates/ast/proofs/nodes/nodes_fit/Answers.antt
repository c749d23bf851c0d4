use mathlib.Core.Path.{refl, ◌∙◌}
use native.Mathlib.Omega.{arith}
use borrow.Author.Rules.{rules}
use borrow.Author.Tests.{tests}
use Rattle.ast.specs.Nodes.{node_fits}
use Rattle.ast.specs.Views.{nodes_seen}
use Rattle.ast.proofs.Fitting.{nodes_along}
use Rattle.ast.proofs.Ranges.{all_numbers}
use Rattle.ast.proofs.nodes.nodes_fit.Goals as goal

pub returns : goal.returns
returns c = let a = c.args in
    let n = a.ns.now.nodes.count in
    all_numbers (node_fits a.names (nodes_seen a.ns.now)) 0 n n (omega arith) refl c.all.ensures.ran (λ i b q k. search (rules, tests)) ∙ nodes_along a.names (nodes_seen a.ns.now) n
