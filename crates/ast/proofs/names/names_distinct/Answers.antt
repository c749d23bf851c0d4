use mathlib.Core.Path.{◌≡◌, sym, ◌∙◌}
use Prim.Native.Nat.{◌+◌, ◌-◌}
use native.Mathlib.Omega.{arith}
use Rattle.std.proofs.lemmas.Grind.{common_steps}
use lib.ListN.{take}
use Rattle.ast.specs.Records.{text_of_name}
use Rattle.ast.proofs.Fields.{length_section}
use Rattle.ast.proofs.Texts.{distinct_done, distinct_more, distinct_not}
use Rattle.ast.proofs.names.names_distinct.Goals as goal

pub loop-i-init : goal.loop-i-init
loop-i-init c = let n = c.args.names.now in
    let s = n.section in
    (distinct_done s.count s.at s.bytes.now (text_of_name (take n.size s.bytes.now)) s.count (omega arith), grind (arith, common_steps, length_section))

pub returns-then-repeats : goal.returns-then-repeats
returns-then-repeats c = let n = c.args.names.now in
    let s = n.section in
    sym (distinct_not s.count s.at s.bytes.now (text_of_name (take n.size s.bytes.now)) (c.loop-i.i - 1) (omega arith) (sym c.repeats.ensures.0 ∙ c.if-repeats.true))

pub loop-i-preserved : goal.loop-i-preserved
loop-i-preserved c = let n = c.args.names.now in
    let s = n.section in
    let loop = c.loop-i in
    let r = c.repeats.ensures in
    let z : loop.i - 1 + 1 ≡ loop.i = omega arith in
    (distinct_more s.count s.at s.bytes.now (text_of_name (take n.size s.bytes.now)) (loop.i - 1) (omega arith) (sym r.0 ∙ c.if-repeats.false) (rw z loop.invariant.0), r.2)
