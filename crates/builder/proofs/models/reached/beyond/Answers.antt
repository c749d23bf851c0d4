use mathlib.Core.Path.{sym, ◌∙◌}
use Prim.Native.Nat.{◌-◌}
use native.Mathlib.Omega.{arith}
use Rattle.std.proofs.lemmas.Bool.Decides.{nat_tests}
use Rattle.ast.specs.Nodes.{size_at}
use Rattle.ast.specs.Opens.{contents_in}
use Rattle.builder.proofs.laws.OpenRecords.{call_args, arg_here}
use Rattle.builder.proofs.laws.Refusals.{beyond_yes, beyond_no, beyond_done}
use Rattle.builder.proofs.models.reached.beyond.Goals as goal

pub loop-left-init : goal.loop-left-init
loop-left-init c = let a = c.args in
    let p = c.requires in
    (size_at (contents_in a.file.now.bytes.now a.file.now.sections).nodes a.call - 1, omega (arith, p.0), rw c.node-count.ensures.0 (call_args a.file.now.bytes.now a.file.now.sections c.args.file.now.opened a.call p.0 p.1), rw c.node-count.ensures.0)

pub overflow_sub-top : goal.overflow_sub-top
overflow_sub-top c = let a = c.args in
    let loop = c.loop-left in
    let last = arg_here a.file.now.bytes.now a.file.now.sections c.args.file.now.opened loop.end loop.left loop.invariant.0 loop.invariant.1 loop.invariant.2 c.loop-left-test.true in
    omega (arith, last.two)

pub returns-then-n-left : goal.returns-then-n-left
returns-then-n-left c = let a = c.args in
    let loop = c.loop-left in
    let law = beyond_yes a.file.now.bytes.now a.file.now.sections c.args.file.now.opened loop.end loop.left loop.invariant.0 loop.invariant.1 loop.invariant.2 c.loop-left-test.true a.n in
    sym (loop.invariant.3 ∙ law (grind (arith, nat_tests)))

pub overflow_sub-end : goal.overflow_sub-end
overflow_sub-end c = let a = c.args in
    let loop = c.loop-left in
    let last = arg_here a.file.now.bytes.now a.file.now.sections c.args.file.now.opened loop.end loop.left loop.invariant.0 loop.invariant.1 loop.invariant.2 c.loop-left-test.true in
    omega (arith, last.within, c.node-end.ensures.0)

pub loop-left-preserved : goal.loop-left-preserved
loop-left-preserved c = let a = c.args in
    let o = c.args.file.now.opened in
    let loop = c.loop-left in
    let last = arg_here a.file.now.bytes.now a.file.now.sections o loop.end loop.left loop.invariant.0 loop.invariant.1 loop.invariant.2 c.loop-left-test.true in
    let b = beyond_no a.file.now.bytes.now a.file.now.sections o loop.end loop.left loop.invariant.0 loop.invariant.1 loop.invariant.2 c.loop-left-test.true a.n in
    let t = b (grind (arith, nat_tests)) in
    (loop.invariant.0 - size_at (contents_in a.file.now.bytes.now a.file.now.sections).nodes (loop.end - 1), omega (arith, loop.invariant.1), rw c.node-end.ensures.0 last.rest, loop.invariant.3 ∙ rw c.node-end.ensures.0 t)

pub returns : goal.returns
returns c = sym (c.loop-left.invariant.3 ∙ beyond_done _ _ _ c.loop-left.left _ c.loop-left-test.false)
