use mathlib.Core.Path.{refl, ◌∙◌}
use Prim.Native.Nat.{ℕ}
use Rattle.builder.specs.Checking.{unknown_in}
use borrow.Author.Rules.{rules}
use borrow.Author.Tests.{tests}
use Rattle.std.proofs.iter.Serving.{serving}
use Rattle.ast.specs.Opens.{file_in}
use Rattle.definitions.specs.Flatten.{lists_itself}
use Rattle.builder.proofs.laws.OpenRecords.{model_is}
use Rattle.builder.proofs.laws.Ranges.{any_numbers}
use Rattle.builder.proofs.laws.Runs.{unknowns_along}
use Rattle.builder.proofs.models.reached.has_self_listed.Goals as goal

pub any-requires-clause-callable : goal.any-requires-clause-callable
any-requires-clause-callable c = let p = c.requires in
    let r = (model_is c.args.names.now.file.bytes.now c.args.names.now.file.sections c.args.names.now.file.opened c.args.m p).unknowns_within in
    grind (serving, r)

pub returns : goal.returns
returns c = let a = c.args in
    let p = c.requires in
    let test = λ (u : ℕ). lists_itself (file_in a.names.now.file.bytes.now a.names.now.file.sections) (unknown_in a.names.now.file.bytes.now a.names.now.file.sections u) in
    any_numbers c.model-first.result _ c.model-count.result refl test refl c.any.ensures.ran (λ u b q k. search (rules, tests))
    ∙ unknowns_along a.names.now.file.bytes.now a.names.now.file.sections c.args.names.now.file.opened a.m p _ _ c.model-first.ensures.0 c.model-count.ensures.0 (lists_itself (file_in a.names.now.file.bytes.now a.names.now.file.sections))
