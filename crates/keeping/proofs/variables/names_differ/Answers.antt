use mathlib.Core.Path.{◌≡◌, refl, ◌∙◌}
use Prim.Native.Nat.{ℕ, suc, ◌+◌}
use native.Mathlib.Omega.{arith}
use borrow.Author.Rules.{rules}
use borrow.Author.Tests.{tests}
use lib.ListN.{length, drop}
use Rattle.functions.specs.Lists.{all}
use Rattle.ast.specs.Views.{records_seen, record_seen}
use Rattle.ast.proofs.Fields.{length_section}
use Rattle.ast.proofs.Ranges.{all_numbers}
use Rattle.definitions.specs.Layout.{named_apart, name_of_variable}
use Rattle.keeping.proofs.Turns.{names_along}
use Rattle.keeping.proofs.variables.names_differ.Goals as goal

pub returns : goal.returns
returns c = let v = c.args.rs.now in
    let r = v.records in
    let test = λ (i : ℕ). all (named_apart (name_of_variable (record_seen v i))) (drop (i + 1) (records_seen v)) in
    let long : length (records_seen v) ≡ r.count = length_section r.width r.count r.at v.bytes.now in
    all_numbers test 0 r.count (length (records_seen v)) (omega (arith, long)) refl c.all.ensures.ran (λ i b q k. search (rules, tests))
    ∙ names_along test 0 (records_seen v) (λ k l. let e : 0 + k + 1 ≡ suc k = omega arith in let z : 0 + k ≡ k = omega arith in rw (e, z) refl)
