use mathlib.Core.Path.{◌≡◌, sym}
use Prim.Native.Nat.{suc, ◌*◌}
use native.Mathlib.Omega.{arith}
use mathlib.Core.Bool.{true, false}
use lib.Dec.{eqb}
use borrow.Author.Tests.{eq-eqb, ne_eqb}
use Rattle.builder.specs.VariableTables.{unknown_in}
use Rattle.builder.proofs.laws.OpenUnknowns.{unknown_name_lem}
use Rattle.area.proofs.Puts.{words_none}
use Rattle.builder.proofs.variables.roster.put_named_deps.Goals as goal

pub put_unknown_deps-requires : goal.put_unknown_deps-requires
put_unknown_deps-requires c = let a = c.args in
    let p = c.requires in
    let e : eqb (suc (unknown_in a.file.now.bytes.now a.file.now.sections a.u).name) a.name ≡ true = eq-eqb (suc (unknown_in a.file.now.bytes.now a.file.now.sections a.u).name) a.name (omega (arith, unknown_name_lem a.file.now.bytes.now a.file.now.sections c.args.file.now.opened a.u p.0, c.unknown.ensures.0, c.if-unknown-name.true)) in
    (p.0, p.1, rw e at p.2)

pub returns-then-unknown-name : goal.returns-then-unknown-name
returns-then-unknown-name c = let a = c.args in
    let p = c.requires in
    let e : eqb (suc (unknown_in a.file.now.bytes.now a.file.now.sections a.u).name) a.name ≡ true = eq-eqb (suc (unknown_in a.file.now.bytes.now a.file.now.sections a.u).name) a.name (omega (arith, unknown_name_lem a.file.now.bytes.now a.file.now.sections c.args.file.now.opened a.u p.0, c.unknown.ensures.0, c.if-unknown-name.true)) in
    (rw e c.put_unknown_deps.ensures.0, rw e c.put_unknown_deps.ensures.1)

pub returns : goal.returns
returns c = let a = c.args in
    let p = c.requires in
    let e : eqb (suc (unknown_in a.file.now.bytes.now a.file.now.sections a.u).name) a.name ≡ false = ne_eqb (suc (unknown_in a.file.now.bytes.now a.file.now.sections a.u).name) a.name (λ q. c.if-unknown-name.false (omega (arith, unknown_name_lem a.file.now.bytes.now a.file.now.sections c.args.file.now.opened a.u p.0, c.unknown.ensures.0, q))) in
    (rw e (omega arith), rw e (sym (words_none a.out.now (4 * a.done))))
