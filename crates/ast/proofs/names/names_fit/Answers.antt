use mathlib.Core.Path.{refl}
use mathlib.Core.List.{[]}
use Prim.Native.Nat.{ℕ}
use borrow.Author.Rules.{rules}
use borrow.Author.Tests.{tests}
use lib.ListN.{get_or}
use Rattle.ast.specs.Words.{section}
use Rattle.ast.specs.Records.{name_fits}
use Rattle.ast.proofs.Fields.{length_section}
use Rattle.ast.proofs.Ranges.{all_places}
use Rattle.ast.proofs.names.names_fit.Goals as goal

pub returns : goal.returns
returns c = let a = c.args in
    let v = a.names.now in
    let all = section 2 v.count v.at v.bytes.now in
    all_places (λ (i : ℕ). name_fits a.size (get_or all i [])) (name_fits a.size) [] v.count all (length_section 2 v.count v.at v.bytes.now) refl c.all.ensures.ran (λ i b q k. search (rules, tests)) (λ k. refl)
