use native.Mathlib.Omega.{arith}
use Rattle.std.proofs.lemmas.Grind.{common_steps}
use Rattle.builder.proofs.laws.OpenRecords.{unknown_is}
use Rattle.builder.proofs.laws.Refusals.{lists_itself_is}
use Rattle.builder.proofs.models.reached.lists_itself.Goals as goal

pub bounds-names-name : goal.bounds-names-name
bounds-names-name c = let a = c.args in
    let p = c.requires in
    omega (arith, (unknown_is a.names.now.file.bytes.now a.names.now.file.sections a.names.now.file.opened a.u p).name_below, c.unknown-name.ensures.0, a.names.now.file.opened.laid.within.names, a.names.now.long)

pub returns-then-usable : goal.returns-then-usable
returns-then-usable c = let a = c.args in
    let p = c.requires in
    let law = lists_itself_is a.names.now.file.bytes.now a.names.now.file.sections a.names.now.file.opened a.names.now.classes.now a.names.now.classed a.u p c.unknown-name.result c.unknown-name.ensures.0 in
    grind (arith, common_steps, law)

pub returns-else-usable : goal.returns-else-usable
returns-else-usable c = let a = c.args in
    let p = c.requires in
    let law = lists_itself_is a.names.now.file.bytes.now a.names.now.file.sections a.names.now.file.opened a.names.now.classes.now a.names.now.classed a.u p c.unknown-name.result c.unknown-name.ensures.0 in
    grind (arith, common_steps, law)
