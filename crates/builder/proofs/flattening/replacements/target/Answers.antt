use mathlib.Core.Path.{◌≡◌}
use Prim.Native.Nat.{suc, ◌≤◌}
use native.Mathlib.Omega.{arith}
use Rattle.functions.specs.Lists.{plus_one}
use Rattle.builder.specs.Starting.{place_as}
use Rattle.builder.proofs.laws.Replacing.{target_keyword, target_unknown, target_beyond}
use Rattle.builder.proofs.laws.OpenRecords.{model_is}
use Rattle.builder.proofs.flattening.replacements.target.Goals as goal

pub returns-in-Some : goal.returns-in-Some
unfolding plus_one place_as
returns-in-Some c = let a = c.args in
    let e : a.keyword ≡ suc c.in-Some.name = let (least, is) = c.in-Some.ensures in omega (arith, least, is) in
    (target_keyword _ a.i a.keyword c.in-Some.name e, omega (arith, e, c.requires.1))

pub unknown-requires : goal.unknown-requires
unknown-requires c = let p = c.requires in
    (omega (arith, (model_is _ _ c.args.file.now.opened c.args.m p.0).unknowns_within, c.model.ensures.0, c.model-then-i-model.ensures.0), omega arith)

pub returns-then-i-model : goal.returns-then-i-model
unfolding plus_one place_as
returns-then-i-model c = let a = c.args in
    let p = c.requires in
    target_unknown _ _ c.args.file.now.opened a.m p.0 a.i a.keyword _ (let none : 1 ≤ a.keyword → ⊥ = c.in_default.ensures in omega (arith, none)) c.model.ensures.0 _ _ (omega arith) c.model-then-i-model.ensures.0 c.unknown.ensures.0

pub returns : goal.returns
unfolding plus_one place_as
returns c = let a = c.args in
    let p = c.requires in
    (target_beyond _ _ c.args.file.now.opened a.m p.0 a.i a.keyword _ (let none : 1 ≤ a.keyword → ⊥ = c.in_default.ensures in omega (arith, none)) c.model.ensures.0 (omega arith), tt)
