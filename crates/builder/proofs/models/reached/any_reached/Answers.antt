use Rattle.std.proofs.Common.{rules, of_calls, eqb, ◌||◌, ◌∙◌}
use borrow.Author.Tests.{tests}
use native.Mathlib.Omega.{arith}
use Rattle.ast.specs.Opens.{file_in}
use Rattle.definitions.specs.Flatten.{reached}
use Rattle.builder.proofs.laws.OpenRecords.{long}
use Rattle.builder.proofs.laws.Ranges.{any_filtered}
use Rattle.builder.proofs.laws.Refusals.{reached_along}
use Rattle.builder.proofs.models.reached.any_reached.Goals as goal

pub returns : goal.returns
returns g c = let a = c.args in
    let f = a.file.now in
    let file = file_in f.bytes.now f.sections in
    λ p says. any_filtered 0 _ f.sections.counts.models (omega arith) p (λ m. eqb m a.root || reached file a.root m) c.filter.ensures.source c.filter.ensures.closure c.any.ensures.ran (λ m b q k. search (rules, tests)) (λ m b q k. (g.met.F.Fn.1.step_stays _ _ _ _ record { met = k.met }, says m b (search of_calls)))
    ∙ reached_along file a.root p _ (long f.bytes.now f.sections f.opened).file_models
