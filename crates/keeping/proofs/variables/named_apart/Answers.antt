use mathlib.Core.Path.{◌≡◌, refl, sym, ap, ◌∙◌}
use mathlib.Core.List.{[]}
use Prim.Native.Nat.{ℕ, ◌-◌}
use mathlib.Core.Bool.{not, ◌&&◌}
use lib.Dec.{eqb}
use native.Mathlib.Omega.{arith}
use borrow.Author.Rules.{rules}
use borrow.Author.Tests.{tests}
use lib.ListN.{length, drop, length-drop}
use lib.Seq.{get_or-drop}
use Rattle.ast.specs.Views.{records_seen, record_seen}
use Rattle.ast.proofs.Fields.{length_section}
use Rattle.ast.proofs.Ranges.{all_numbers, all_along}
use Rattle.definitions.specs.Layout.{named_apart, name_of_variable}
use Rattle.keeping.proofs.Turns.{apart_says}
use Rattle.keeping.proofs.variables.named_apart.Goals as goal

pub returns : goal.returns
returns c = let a = c.args in
    let v = a.rs.now in
    let r = v.records in
    let test = λ (i : ℕ). not (eqb (name_of_variable (record_seen v i)) 0) && not (eqb (name_of_variable (record_seen v i)) a.name) in
    let left = drop a.from (records_seen v) in
    let long : length left ≡ r.count - a.from = length-drop a.from (records_seen v) ∙ ap (λ (n : ℕ). n - a.from) (length_section r.width r.count r.at v.bytes.now) in
    all_numbers test a.from r.count (length left) (omega (arith, long, c.requires)) refl c.all.ensures.ran (λ i b q k. search (rules, tests))
    ∙ all_along test (named_apart a.name) [] a.from left (λ k l. apart_says a.name _ _ refl ∙ ap (named_apart a.name) (sym (get_or-drop a.from (records_seen v) k [])))
