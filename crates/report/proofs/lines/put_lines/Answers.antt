use mathlib.Core.Path.{refl, sym}
use Prim.Native.Nat.{◌<◌}
use native.Mathlib.Omega.{arith}
use lib.ListN.{length}
use Rattle.ast.proofs.Fronts.{front_none}
use Rattle.report.specs.Tabled.{tabled_lines}
use Rattle.report.proofs.Written.{one_of_them, all_of_them, more_end, put_more}
use Rattle.report.proofs.lines.put_lines.Goals as goal

pub loop-i-init : goal.loop-i-init
unfolding tabled_lines
loop-i-init c = (omega arith, refl, sym (front_none c.args.out.now))

pub loop-i-preserved : goal.loop-i-preserved
loop-i-preserved c = let a = c.args in
    let p = c.loop-i in
    let is-place = c.place_of-place.ensures in
    let is-kind = c.word-kind.ensures.0 in
    let put = c.put_line-at.ensures in
    let fits : p.i < length a.entries.now = omega arith in
    let one = one_of_them a.es.now.records a.es.now.bytes.now p.i c.loop-i-test.true in (
      omega arith,
      more_end a.entries.now _ p.i _ _ _ fits one is-place is-kind _ p.invariant.1 _ put.0,
      put_more a.entries.now _ p.i _ _ _ fits one is-place is-kind _ p.invariant.1 a.out.now _ _ p.invariant.2 put.2,
    )

pub returns : goal.returns
returns c = let a = c.args in
    let all = all_of_them a.es.now.records a.es.now.bytes.now c.loop-i.i c.loop-i-test.false in
    (rw all at c.loop-i.invariant.1, rw all at c.loop-i.invariant.2)
