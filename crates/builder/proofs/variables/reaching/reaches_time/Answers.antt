use mathlib.Core.Path.{◌≡◌, refl, ◌∙◌}
use Prim.Native.Nat.{ℕ, ◌+◌, ◌≤◌, ◌<◌}
use borrow.Author.Rules.{rules}
use borrow.Author.Tests.{tests}
use lib.ListN.{take, drop, get_or}
use Rattle.std.proofs.iter.Serving.{serving}
use Rattle.ast.specs.Words.{words}
use Rattle.area.specs.Sections.{deps_at}
use Rattle.builder.specs.Reaching.{leads}
use Rattle.builder.specs.Areas.{marks_seen}
use Rattle.builder.proofs.laws.Ranges.{any_numbers}
use Rattle.builder.proofs.laws.TimeRounds.{run_within, dep_below, any_dep}
use Rattle.builder.proofs.variables.reaching.reaches_time.Goals as goal

pub any-requires-clause-callable : goal.any-requires-clause-callable
any-requires-clause-callable c = let a = c.args in
    let p = c.requires in
    let z = a.area.now.sizes in
    let b = a.area.now.bytes.now in
    let f = c.var-first.result in
    let n = c.var-count.result in
    let long = p.0.long in
    let small = p.0.small in
    let within = run_within z b p.0 a.v p.1 f n c.var-first.ensures c.var-count.ensures in
    let below : (at k r : ℕ) → at ≡ deps_at z → f ≤ k → k < f + n → r ≡ get_or (take z.deps (words (drop at b))) k 0 → r < z.vars = dep_below z b p.0 a.v p.1 f n c.var-first.ensures c.var-count.ensures in
    grind (serving, long, small, within, below)

pub returns : goal.returns
unfolding leads
returns c = let a = c.args in
    let p = c.requires in
    let z = a.area.now.sizes in
    let b = a.area.now.bytes.now in
    let f = c.var-first.result in
    let n = c.var-count.result in
    any_numbers f _ n refl (λ (k : ℕ). leads (marks_seen a.area.now) (get_or (take z.deps (words (drop (deps_at z) b))) k 0)) refl c.any.ensures.ran (λ k w q x. search (rules, tests))
    ∙ any_dep z b p.0 a.v p.1 f n c.var-first.ensures c.var-count.ensures (leads (marks_seen a.area.now))
