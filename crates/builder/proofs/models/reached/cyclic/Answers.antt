use mathlib.Core.Path.{◌∙◌}
use Prim.Native.Nat.{ℕ, ◌*◌, ◌<◌}
use native.Mathlib.Omega.{arith}
use borrow.Author.Rules.{rules}
use borrow.Author.Tests.{tests}
use lib.Dec.{eqb}
use lib.ListN.{get_or}
use Rattle.ast.specs.Opens.{file_in}
use Rattle.definitions.specs.Flatten.{reached, cyclic}
use Rattle.builder.proofs.laws.OpenRecords.{long}
use Rattle.builder.proofs.laws.Refusals.{reached_same, itself_flag}
use Rattle.builder.proofs.models.reached.cyclic.Goals as goal

pub returns : goal.returns
unfolding cyclic
returns c = let a = c.args in
    let p = c.requires in
    let f = a.file.now in
    let file = file_in f.bytes.now f.sections in
    let test = λ (m : ℕ). eqb (get_or a.table.now (33 * m) 0) 1 in
    let models = (long f.bytes.now f.sections f.opened).file_models in
    c.any_reached.ensures test (λ m b k. search (rules, tests))
    ∙ reached_same file a.root test (λ m. reached file m m) _ (λ m l. let h : m < f.sections.counts.models = omega (arith, models) in itself_flag f.bytes.now f.sections f.opened a.table.now p.0 m h)
