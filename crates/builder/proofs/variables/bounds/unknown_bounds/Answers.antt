use native.Mathlib.Omega.{arith}
use mathlib.Core.Path.{◌≡◌, ◌∙◌}
use Prim.Native.Nat.{◌<◌}
use lib.ListN.{length}
use Rattle.ast.specs.Words.{word_of}
use Rattle.ast.specs.Opens as Opens
use Rattle.definitions.specs.Names.{is_time}
use Rattle.builder.proofs.laws.Open.{unknown_record, names_long}
use Rattle.builder.proofs.laws.Classes.{entry_time}
use Rattle.builder.proofs.laws.BoundLaws.{domain_below, unknown_floating}
use Rattle.builder.proofs.laws.OpenRecords.{unknown_is}
use Rattle.builder.proofs.variables.bounds.unknown_bounds.Goals as goal

pub bounds-names-name : goal.bounds-names-name
bounds-names-name c = let a = c.args in
    let f = a.names.now.file in
    omega (arith, c.unknown-name.ensures.0, (unknown_is f.bytes.now f.sections f.opened a.u c.requires).name_below, f.opened.laid.within.names, a.names.now.long)

pub domain_bounds-requires : goal.domain_bounds-requires
domain_bounds-requires c = let a = c.args in
    let f = a.names.now.file in
    domain_below f.bytes.now f.sections a.u f.opened c.requires c.domain-domain.result c.domain-domain.ensures (length a.names.now.classes.now) (omega (arith, f.opened.laid.within.names, a.names.now.long))

pub returns : goal.returns
returns c = let a = c.args in
    let p = c.requires in
    let src = a.names.now in
    let f = src.file in
    let name = word_of (unknown_record f.bytes.now f.sections a.u) 0 in
    let n : name < length (Opens.file_in f.bytes.now f.sections).names = omega (arith, (unknown_is f.bytes.now f.sections f.opened a.u p).name_below, names_long f.bytes.now f.sections) in
    let t : c.eq.result ≡ is_time (Opens.file_in f.bytes.now f.sections).names name = c.eq.ensures ∙ rw c.unknown-name.ensures.0 (entry_time src.classed name n) in
    unknown_floating f.bytes.now f.sections a.u f.opened p c.domain-domain.result c.domain-domain.ensures src.classes.now src.classed _ t c.domain_bounds.result c.domain_bounds.ensures
