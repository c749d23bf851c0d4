use Prim.Native.Nat.{ℕ}
use borrow.Author.Rules.{rules}
use borrow.Author.Tests.{tests}
use Rattle.functions.specs.Lists.{any}
use Rattle.ast.specs.Opens.{file_in}
use Rattle.definitions.specs.Flatten.{model_at, lists_itself, self_listed}
use Rattle.builder.proofs.models.reached.self_listed.Goals as goal

pub returns : goal.returns
unfolding self_listed
returns c = let f = c.args.names.now.file in
    let file = file_in f.bytes.now f.sections in
    c.any_reached.ensures (λ (m : ℕ). any (lists_itself file) (model_at file m).unknowns) (λ m b k. search (rules, tests))
