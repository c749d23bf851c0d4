use mathlib.Core.Path.{refl, ◌∙◌}
use native.Mathlib.Omega.{arith}
use borrow.Author.Rules.{rules}
use borrow.Author.Tests.{tests}
use Rattle.area.specs.Sections.{deps_at}
use Rattle.builder.specs.VarRecords.{is_time}
use Rattle.builder.proofs.laws.VarLaws.{index_is, index_fits}
use Rattle.builder.proofs.laws.Ranges.{word_of_place}
use Rattle.builder.proofs.variables.records.lead_of.Goals as goal

pub map_or-requires : goal.map_or-requires
map_or-requires c = let a = c.args in
    let p = c.requires in
    let index = c.time_index-index in
    λ i e. let few = rw e at (index_fits a.area.now.bytes.now (deps_at a.area.now.sizes) _ a.first a.end p.1 p.2 p.3 c.deps_at-at.ensures index.result index.ensures) in (λ h r. omega (arith, few), λ h r. omega (arith, few))

pub returns : goal.returns
unfolding is_time
returns c = let a = c.args in
    let p = c.requires in
    let index = c.time_index-index in
    let word = word_of_place index.result _ _ c.map_or.ensures (λ k e. search (rules, tests)) ∙ index_is a.area.now.bytes.now (deps_at a.area.now.sizes) _ a.first a.end p.1 p.2 p.3 c.deps_at-at.ensures index.result index.ensures in
    record { name_of = refl; first_of = refl; end_of = refl; index_of = word; time_of = refl }
