use mathlib.Core.Path.{refl, sym, ap, ◌∙◌}
use Prim.Native.Nat.{ℕ}
use native.Mathlib.Omega.{arith}
use borrow.Author.Rules.{rules}
use borrow.Author.Tests.{tests}
use lib.Dec.{eqb}
use lib.ListN.{length, get_or}
use Rattle.std.proofs.iter.Serving.{serving}
use Rattle.functions.specs.Lists.{member}
use Rattle.ast.specs.Opens.{contents_in}
use Rattle.builder.specs.Checking.{unknown_in}
use Rattle.builder.proofs.laws.OpenRecords.{unknown_is}
use Rattle.builder.proofs.laws.Ranges.{any_numbers, any_along}
use Rattle.builder.proofs.laws.Unknowns.{deps_at_lem}
use Rattle.builder.proofs.models.scope.names_dep.Goals as goal

pub any-requires-clause-callable : goal.any-requires-clause-callable
any-requires-clause-callable c = let p = c.requires in
    let r = (unknown_is c.args.file.now.bytes.now c.args.file.now.sections c.args.file.now.opened c.args.u p).deps_within in
    grind (serving, r)

pub returns : goal.returns
unfolding member
returns c = let a = c.args in
    let first = c.unknown-first in
    let u = unknown_is a.file.now.bytes.now a.file.now.sections c.args.file.now.opened a.u c.requires in
    let deps = (unknown_in a.file.now.bytes.now a.file.now.sections a.u).deps in
    let listed = λ (d : ℕ). eqb a.name (get_or (contents_in a.file.now.bytes.now a.file.now.sections).deps d 0) in
    any_numbers first.result _ (length deps) (omega arith) listed refl c.any.ensures.ran (λ d b q k. search (rules, tests))
    ∙ any_along listed (eqb a.name) 0 first.result deps (λ k l. ap (eqb a.name) (sym (deps_at_lem c.args.file.now.opened a.u k first.result first.ensures.0 (omega (arith, u.deps_long)))))
