use mathlib.Core.Path.{refl}
use native.Mathlib.Omega.{arith}
use borrow.Author.Rules.{rules}
use borrow.Author.Tests.{tests}
use lib.Dec.{eqb}
use Prim.Native.Nat.{◌+◌}
use Rattle.ast.specs.Words.{word_of}
use Rattle.builder.proofs.laws.Open.{unknown_record}
use Rattle.builder.proofs.laws.BoundLaws.{decided_all, last_found}
use Rattle.builder.proofs.laws.OpenRecords.{model_is}
use Rattle.builder.proofs.laws.Ranges.{rev_list, serves_downward, last_over}
use Rattle.builder.proofs.variables.bounds.last_declared.Goals as goal

pub find-requires-clause-callable : goal.find-requires-clause-callable
find-requires-clause-callable c = let a = c.args in
    let r = (model_is a.file.now.bytes.now a.file.now.sections c.args.file.now.opened a.m c.requires).unknowns_within in
    serves_downward c.model-first.result _ c.model-count.result refl (rev_list c.model-first.result _ c.model-count.result refl c.rev.ensures.source) (λ x q k. search (rules, tests)) (λ x l u. grind (rules, r))

pub returns : goal.returns
returns c = let a = c.args in
    let o = c.args.file.now.opened in
    let first = c.model-first in
    let count = c.model-count in
    rw (last_over first.result _ count.result refl (λ u. eqb (word_of (unknown_record a.file.now.bytes.now a.file.now.sections u) 0 + 1) a.name) _ c.rev.ensures.source c.find.ensures.ran (λ u b q k. search (rules, tests)))
    (last_found a.file.now.bytes.now a.file.now.sections o a.m c.requires a.name first.result first.ensures.0 count.result (omega (arith, count.ensures.0)) (decided_all a.file.now.bytes.now a.file.now.sections o a.m c.requires a.name count.result count.ensures.0))
