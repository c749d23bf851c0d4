use Rattle.std.proofs.Common.{rules, arith, ℕ, ◌<◌, not, eqb, get_or, sym, ap, ◌∙◌, length}
use borrow.Author.Tests.{tests}
use Rattle.std.proofs.iter.Serving.{serving}
use Rattle.ast.specs.Opens.{contents_in}
use Rattle.builder.specs.Checking.{unknown_in}
use Rattle.builder.specs.Tables.{kept_in}
use Rattle.builder.proofs.laws.OpenRecords.{unknown_is, dep_below}
use Rattle.builder.proofs.laws.Ranges.{count_filtered, count_along}
use Rattle.builder.proofs.laws.Unknowns.{deps_at_lem}
use Rattle.builder.proofs.models.scope.kept_count.Goals as goal

pub count-requires-clause-can : goal.count-requires-clause-can
count-requires-clause-can c = let a = c.args in
    let p = c.requires in
    let r = (unknown_is a.file.now.bytes.now a.file.now.sections c.args.file.now.opened a.u p.0).deps_within in
    let few = c.args.file.now.opened.laid.within.names in
    let below : (d : ℕ) → d < a.file.now.sections.counts.deps → get_or (contents_in a.file.now.bytes.now a.file.now.sections).deps d 0 < a.file.now.sections.counts.names = dep_below a.file.now.bytes.now a.file.now.sections c.args.file.now.opened in
    grind (serving, r, few, below)

pub overflow_cast-result : goal.overflow_cast-result
overflow_cast-result c = let a = c.args in
    let o = c.args.file.now.opened in
    let few = rw c.filter.ensures.source at c.count.ensures.bound in
    omega (arith, (unknown_is a.file.now.bytes.now a.file.now.sections o a.u c.requires.0).deps_within, o.laid.within.deps)

pub returns : goal.returns
unfolding kept_in
returns c = let a = c.args in
    let o = c.args.file.now.opened in
    let first = c.unknown-first in
    let u = unknown_is a.file.now.bytes.now a.file.now.sections o a.u c.requires.0 in
    let deps = (unknown_in a.file.now.bytes.now a.file.now.sections a.u).deps in
    let kept = λ (d : ℕ). not (eqb (get_or a.vars.now d 0) 0) in
    let here = λ (d : ℕ). kept (get_or (contents_in a.file.now.bytes.now a.file.now.sections).deps d 0) in
    let few = rw c.filter.ensures.source at c.count.ensures.bound in (
      count_filtered first.result _ (length deps) (omega arith) here c.filter.ensures.source c.filter.ensures.closure c.count.ensures.ran (λ d b q k. search (rules, tests))
          ∙ count_along here kept 0 first.result deps (λ k l. ap kept (sym (deps_at_lem o a.u k first.result first.ensures.0 (omega (arith, u.deps_long))))),
      omega (arith, o.laid.within.deps),
    )
