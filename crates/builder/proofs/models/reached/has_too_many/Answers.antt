use mathlib.Core.Path.{refl, ◌∙◌}
use Prim.Native.Nat.{ℕ}
use Rattle.builder.specs.Checking.{stmt_in}
use borrow.Author.Rules.{rules}
use borrow.Author.Tests.{tests}
use Rattle.std.proofs.iter.Serving.{serving}
use Rattle.ast.specs.Opens.{file_in}
use Rattle.definitions.specs.Flatten.{stmt_beyond}
use Rattle.builder.proofs.laws.OpenRecords.{model_is}
use Rattle.builder.proofs.laws.Ranges.{any_numbers}
use Rattle.builder.proofs.laws.Runs.{stmts_along}
use Rattle.builder.proofs.models.reached.has_too_many.Goals as goal

pub any-requires-clause-callable : goal.any-requires-clause-callable
any-requires-clause-callable c = let p = c.requires in
    let r = (model_is c.args.calls.now.file.bytes.now c.args.calls.now.file.sections c.args.calls.now.file.opened c.args.m p).stmts_within in
    grind (serving, r)

pub returns : goal.returns
returns c = let a = c.args in
    let p = c.requires in
    let test = λ (q : ℕ). stmt_beyond (file_in a.calls.now.file.bytes.now a.calls.now.file.sections) (stmt_in a.calls.now.file.bytes.now a.calls.now.file.sections q) in
    any_numbers c.model-first.result _ c.model-count.result refl test refl c.any.ensures.ran (λ q b d k. search (rules, tests))
    ∙ stmts_along a.calls.now.file.bytes.now a.calls.now.file.sections c.args.calls.now.file.opened a.m p _ _ c.model-first.ensures.0 c.model-count.ensures.0 (stmt_beyond (file_in a.calls.now.file.bytes.now a.calls.now.file.sections))
