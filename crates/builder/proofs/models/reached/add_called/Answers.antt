use mathlib.Core.Path.{sym}
use native.Mathlib.Omega.{arith}
use Rattle.ast.specs.Opens.{file_in}
use Rattle.builder.specs.Checking.{stmt_in}
use Rattle.builder.specs.Starting.{place_as}
use Rattle.builder.proofs.laws.Calling.{called_below}
use Rattle.builder.proofs.laws.Open.{models_long}
use Rattle.builder.proofs.laws.Rounds.{called_none, called_one}
use Rattle.builder.proofs.models.reached.add_called.Goals as goal

pub returns-in_default : goal.returns-in_default
unfolding place_as
returns-in_default c = let a = c.args in
    let s = a.calls.now.file in
    called_none (file_in s.bytes.now s.sections) (stmt_in s.bytes.now s.sections a.q) a.old.now s.sections.counts.models a.a a.new.now (sym c.in_default.ensures)

pub add_reached-requires : goal.add_reached-requires
unfolding place_as
add_reached-requires c = let a = c.args in
    let p = c.requires in
    let s = a.calls.now.file in
    record {
      old_long = p.0;
      new_long = p.1;
      few = s.opened.laid.within.models;
      called = omega (arith, called_below (file_in s.bytes.now s.sections) _ _ (sym c.in-Some.ensures), models_long s.bytes.now s.sections);
      row = p.3;
    }

pub returns-in-Some : goal.returns-in-Some
unfolding place_as
returns-in-Some c = let a = c.args in
    let s = a.calls.now.file in
    called_one (file_in s.bytes.now s.sections) (stmt_in s.bytes.now s.sections a.q) a.old.now s.sections.counts.models a.a a.new.now _ _ (sym c.in-Some.ensures) c.add_reached.ensures
