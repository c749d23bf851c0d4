use Rattle.std.proofs.Common.{rules, eqb, refl, sym, ◌∙◌}
use borrow.Author.Tests.{tests}
use Rattle.std.proofs.iter.Serving.{serving}
use Rattle.functions.specs.Lists.{member}
use Rattle.ast.specs.Records.{unknown_of}
use Rattle.builder.specs.Checking.{unknown_in}
use Rattle.builder.proofs.laws.Dependents.{lists_as}
use Rattle.builder.proofs.laws.Unknowns.{kept_none, kept_listed}
use Rattle.builder.proofs.laws.OpenRecords.{model_is}
use Rattle.builder.proofs.laws.Ranges.{any_filtered}
use Rattle.builder.proofs.laws.Runs.{unknowns_along}
use Rattle.builder.proofs.models.scope.is_dep_of.Goals as goal

pub returns-then-vars-name-eq0 : goal.returns-then-vars-name-eq0
returns-then-vars-name-eq0 c = let p = c.requires in
    sym (kept_none p.0 _ _ p.1 p.2 c.if-vars-name-eq0.true)

pub any-requires-clause-can : goal.any-requires-clause-can
any-requires-clause-can c = let g = c.requires.0 in
    let r = (model_is c.args.file.now.bytes.now c.args.file.now.sections g.opened c.args.m g.model).unknowns_within in
    grind (serving, r)

pub any-requires-clause-callable : goal.any-requires-clause-callable
any-requires-clause-callable c = let g = c.requires.0 in
    let r = (model_is c.args.file.now.bytes.now c.args.file.now.sections g.opened c.args.m g.model).unknowns_within in
    grind (serving, r)

pub returns : goal.returns
unfolding unknown_of
returns c = let a = c.args in
    let p = c.requires in
    let g = p.0 in
    let first = c.model-first in
    let count = c.model-count in
    any_filtered first.result _ count.result refl (λ u. member a.name (unknown_in a.file.now.bytes.now a.file.now.sections u).deps) (λ u. eqb (unknown_in a.file.now.bytes.now a.file.now.sections u).name a.variable) c.filter.ensures.source c.filter.ensures.closure c.any.ensures.ran (λ u b q k. search (rules, tests)) (λ u b q k. search (rules, tests))
    ∙ unknowns_along a.file.now.bytes.now a.file.now.sections g.opened a.m g.model _ _ first.ensures.0 count.ensures.0 (lists_as a.variable a.name) ∙ sym (kept_listed g _ _ p.1 p.2 c.if-vars-name-eq0.false)
