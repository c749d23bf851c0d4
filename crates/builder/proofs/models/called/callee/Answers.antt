use mathlib.Core.Path.{◌≡◌, sym, ap, ◌∙◌}
use Prim.Native.Nat.{◌≤◌}
use native.Mathlib.Omega.{arith}
use borrow.Author.Rules.{rules}
use borrow.Author.Tests.{eqb-true, eqb-false, tests}
use Rattle.functions.specs.Lists.{plus_one}
use Rattle.ast.specs.Words.{word_of}
use Rattle.ast.specs.Nodes.{name_at}
use Rattle.ast.specs.Opens.{contents_in, file_in}
use Rattle.definitions.specs.Flatten.{model_named}
use Rattle.builder.specs.Starting.{place_as}
use Rattle.builder.proofs.laws.Open.{stmt_record}
use Rattle.builder.proofs.laws.Ranges.{word_of_place, place_within}
use Rattle.builder.proofs.laws.Finding.{named_below, callee_none, callee_some}
use Rattle.builder.proofs.laws.OpenRecords.{stmt_is}
use Rattle.builder.proofs.models.called.callee.Goals as goal

pub returns-then-not-is_stmt : goal.returns-then-not-is_stmt
returns-then-not-is_stmt c = let a = c.args in
    let p = c.requires in
    sym (callee_none a.file.now.bytes.now a.file.now.sections a.q c.args.file.now.opened p (eqb-false _ _ (sym c.is_stmt.ensures ∙ c.if-not-is_stmt.true)))

pub node-requires : goal.node-requires
node-requires c = let a = c.args in
    let p = c.requires in
    let t = (stmt_is a.file.now.bytes.now a.file.now.sections c.args.file.now.opened a.q p).right in
    (omega (arith, t.0, c.stmt-call.ensures.0), omega arith)

pub map_or-requires : goal.map_or-requires
map_or-requires c = let a = c.args in
    let found = c.find_model.result in
    let few : plus_one (place_as found) ≤ 32 = omega (arith, ap plus_one c.find_model.ensures, named_below a.file.now.bytes.now a.file.now.sections c.node.result, a.file.now.opened.laid.within.models) in
    λ m e. let below = rw e at (place_within found 32 few) in (λ h r. omega (arith, below), λ h r. omega (arith, below))

pub returns : goal.returns
returns c = let a = c.args in
    let k : word_of (stmt_record a.file.now.bytes.now a.file.now.sections a.q) 0 ≡ 3 = eqb-true _ _ (sym c.is_stmt.ensures ∙ c.if-not-is_stmt.false) in
    let found : place_as c.find_model.result ≡ model_named (file_in a.file.now.bytes.now a.file.now.sections) (name_at (contents_in a.file.now.bytes.now a.file.now.sections).nodes (word_of (stmt_record a.file.now.bytes.now a.file.now.sections a.q) 3)) = c.find_model.ensures ∙ ap (model_named (file_in a.file.now.bytes.now a.file.now.sections)) (c.node.ensures.0 ∙ ap (name_at (contents_in a.file.now.bytes.now a.file.now.sections).nodes) c.stmt-call.ensures.0) in
    word_of_place c.find_model.result _ _ c.map_or.ensures (λ m e. search (rules, tests)) ∙ ap plus_one found ∙ sym (callee_some a.file.now.bytes.now a.file.now.sections a.q k)
