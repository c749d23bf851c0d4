use mathlib.Core.Path.{◌∙◌}
use mathlib.Core.Bool.{false}
use native.Mathlib.Omega.{arith}
use lib.ListN.{get_or}
use Rattle.builder.proofs.laws.Flags.{flag_byte}
use Rattle.builder.proofs.laws.TimeRounds.{over_more, over_all}
use Rattle.builder.proofs.variables.reaching.take_marks.Goals as goal

pub loop-v-preserved : goal.loop-v-preserved
loop-v-preserved c = let a = c.args in
    let loop = c.loop-v in
    let e = c.from-new.ensures ∙ flag_byte _ in
    rw e (over_more a.z a.area.now (λ w. get_or a.next.now w false) loop.v loop.changed loop.area c.put_var.new.area c.var-old.result
    (omega (arith, c.requires.0.long)) (omega arith) c.var-old.ensures (rw e at c.put_var.ensures) loop.invariant)

pub returns : goal.returns
returns c = let a = c.args in
    let loop = c.loop-v in (
      over_all a.z a.area.now (λ w. get_or a.next.now w false) loop.v loop.changed loop.area (omega arith) loop.invariant,
      λ q v l. loop.invariant.marks.same q v (omega arith),
    )
