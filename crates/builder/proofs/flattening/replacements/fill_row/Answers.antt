use native.Mathlib.Omega.{arith}
use Rattle.builder.proofs.laws.Replacing.{filling_start, filling_last, filling_step, filling_end}
use Rattle.builder.proofs.flattening.replacements.fill_row.Goals as goal

pub loop-i-init : goal.loop-i-init
loop-i-init c = let p = c.requires in
    filling_start _ _ _ _ p.0.opened _ _ p.0.within p.0.kind p.1 p.2 c.node-count.ensures.0

pub note_argument-requires : goal.note_argument-requires
note_argument-requires c = let p = c.requires in
    let loop = c.loop-i in
    let a = filling_last _ _ _ _ p.0.opened _ _ _ loop.invariant c.loop-i-test.true in
    (p.0.model, record { some = omega (arith, a.two); within = loop.invariant.within; kind = a.kind }, record { long = loop.invariant.long; fit = loop.invariant.fit })

pub overflow_sub-end : goal.overflow_sub-end
overflow_sub-end c = let a = filling_last _ _ _ _ c.requires.0.opened _ _ _ c.loop-i.invariant c.loop-i-test.true in
    omega (arith, a.two)

pub overflow_sub-end-in-loop-i : goal.overflow_sub-end-in-loop-i
overflow_sub-end-in-loop-i c = let a = filling_last _ _ _ _ c.requires.0.opened _ _ _ c.loop-i.invariant c.loop-i-test.true in
    omega (arith, a.within, c.node-end.ensures.0)

pub loop-i-preserved : goal.loop-i-preserved
loop-i-preserved c = filling_step _ _ _ _ c.requires.0.opened _ _ _ c.loop-i.invariant c.loop-i-test.true _ _ c.node-end.ensures.0 c.note_argument.ensures

pub returns : goal.returns
returns c = let h = c.loop-i.invariant in
    (record { long = h.long; fit = h.fit }, filling_end _ _ _ _ c.requires.0.opened _ _ _ h (omega arith))
