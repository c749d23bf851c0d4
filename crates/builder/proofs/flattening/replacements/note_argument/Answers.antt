use mathlib.Core.Path.{◌≡◌, ◌∙◌}
use native.Mathlib.Omega.{arith}
use Prim.Native.Nat.{suc, ◌-◌, ◌<◌}
use lib.ListN.{length}
use Rattle.functions.specs.Lists.{plus_one}
use Rattle.ast.specs.Opens.{file_in}
use Rattle.definitions.specs.Flatten.{replaced_name, model_at}
use Rattle.builder.specs.Starting.{place_as}
use Rattle.builder.proofs.laws.OpenStmts.{names_few}
use Rattle.builder.proofs.laws.Replacing.{argument_keyword, argument_child, noted, noted_none, noted_in, noted_length}
use Rattle.builder.proofs.flattening.replacements.note_argument.Goals as goal

pub target-requires : goal.target-requires
target-requires c = let p = c.requires in
    let k = argument_keyword _ _ c.args.file.now.opened c.args.end p.1.some p.1.within p.1.kind in
    (p.0, omega (arith, k, c.node.ensures.0))

pub returns-in-Some : goal.returns-in-Some
unfolding plus_one place_as
returns-in-Some c = let args = c.args in
    let p = c.requires in
    let name = c.in-Some.name in
    let a = argument_child _ _ c.args.file.now.opened args.end p.1.some p.1.within p.1.kind in
    let e = c.set_free.ensures in
    let t : suc name ≡ replaced_name (model_at (file_in args.file.now.bytes.now args.file.now.sections) args.m).unknowns args.i c.node.result = c.in-Some.ensures.0 in
    let d : name < args.file.now.sections.counts.names = c.in-Some.ensures.1 in
    let b : name < length args.row.now = omega (arith, names_few _ _ c.args.file.now.opened, d) in
    (record { long = noted_length args.row.now _ name (args.end - 1) e ∙ p.2.long; fit = noted_in args.file.now.bytes.now args.file.now.sections args.row.now _ name (args.end - 1) p.2.fit d b (omega (arith, a.0)) (omega (arith, a.0, p.1.within)) a.1 e }, rw (← c.node.ensures.0, ← t) (noted _ args.row.now _ name (args.end - 1) b (omega (arith, a.0)) e))

pub returns-in_default : goal.returns-in_default
unfolding plus_one place_as
returns-in_default c = let args = c.args in
    let p = c.requires in
    let t : 0 ≡ replaced_name (model_at (file_in args.file.now.bytes.now args.file.now.sections) args.m).unknowns args.i c.node.result = c.in_default.ensures.0 in
    (p.2, rw (← c.node.ensures.0, ← t) (noted_none _ _ _))
