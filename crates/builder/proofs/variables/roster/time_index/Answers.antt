use mathlib.Core.Path.{refl, ap, ◌∙◌}
use native.Mathlib.Omega.{arith}
use Prim.Native.Nat.{◌-◌}
use borrow.Author.Rules.{rules}
use borrow.Author.Tests.{tests}
use Rattle.builder.specs.Starting.{place_as}
use Rattle.builder.proofs.laws.Timing.{time_at, last_of_all}
use Rattle.builder.proofs.laws.Ranges.{back_list, serves_downward, last_place_over}
use Rattle.builder.proofs.variables.roster.time_index.Goals as goal

pub rposition-requires-clause-callable : goal.rposition-requires-clause-callable
rposition-requires-clause-callable c = let a = c.args in
    let n = a.end - a.first in
    serves_downward a.first a.end n (omega arith) (back_list a.first a.end n (omega arith) refl) (λ x q k. search (rules, tests)) (λ x l u. grind rules)

pub returns : goal.returns
returns c = let a = c.args in
    let p = c.requires in
    ap place_as (last_place_over a.first a.end (a.end - a.first) (omega arith) (time_at a.deps.now a.first a.end p.0 p.1) _ refl c.rposition.ensures.ran (λ i b q k. search (rules, tests))) ∙ last_of_all a.deps.now a.first a.end p.0 p.1
