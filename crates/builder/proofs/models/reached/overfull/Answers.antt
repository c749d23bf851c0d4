use Prim.Native.Nat.{ℕ}
use borrow.Author.Rules.{rules}
use borrow.Author.Tests.{tests}
use Rattle.functions.specs.Lists.{any}
use Rattle.ast.specs.Opens.{file_in}
use Rattle.definitions.specs.Flatten.{model_at, stmt_beyond, overfull}
use Rattle.builder.proofs.models.reached.overfull.Goals as goal

pub returns : goal.returns
unfolding overfull
returns c = let f = c.args.calls.now.file in
    let file = file_in f.bytes.now f.sections in
    c.any_reached.ensures (λ (m : ℕ). any (stmt_beyond file) (model_at file m).stmts) (λ m b k. search (rules, tests))
