use mathlib.Core.Path.{refl, sym, ◌∙◌}
use native.Mathlib.Omega.{arith}
use lib.Seq.{map-set_same}
use Rattle.ast.proofs.Fronts.{front_none}
use Rattle.positions.specs.declared.Entry.{Entry}
use Rattle.report.proofs.Written.{one_of_them, all_of_them, noted_more}
use Rattle.report.proofs.starts.note_starts.Goals as goal

pub loop-i-init : goal.loop-i-init
loop-i-init c = (sym (front_none _), refl)

pub loop-i-preserved : goal.loop-i-preserved
loop-i-preserved c = let a = c.args in
    let p = c.loop-i in (
      noted_more _ a.entries.now p.entries p.i _ (one_of_them a.es.now.records a.es.now.bytes.now p.i c.loop-i-test.true) (omega arith) p.invariant.0 c.word.ensures.0,
      map-set_same (λ (x : Entry). x.place) p.entries p.i _ _ refl ∙ p.invariant.1,
    )

pub returns : goal.returns
returns c = let a = c.args in
    let p = c.loop-i.invariant in
    record { starts = rw (all_of_them a.es.now.records a.es.now.bytes.now c.loop-i.i c.loop-i-test.false) at p.0; places = p.1 }
