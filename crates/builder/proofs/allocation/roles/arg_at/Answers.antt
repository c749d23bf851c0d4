use mathlib.Core.Path.{◌≡◌, refl, sym, ◌∙◌}
use Prim.Native.Nat.{◌+◌, ◌-◌}
use native.Mathlib.Omega.{arith}
use Rattle.ast.proofs.Fitting.{node_ok, last_arg}
use Rattle.builder.proofs.laws.LeftSides.{arg_last, arg_before}
use Rattle.builder.proofs.allocation.roles.arg_at.Goals as goal

pub loop-init : goal.loop-init
loop-init c = let p = c.requires in
    let F = p.flattened.1 in
    let all : c.node-left.result + (c.args.i + 1) - (c.args.i + 1) ≡ c.node-left.result = omega arith in
    rw (all, c.node-left.ensures.0) (omega (arith, p.within), (_, (node_ok _ _ _ F.nodes _ p.within).call p.kind), refl)

pub overflow_sub-end : goal.overflow_sub-end
overflow_sub-end c = let loop = c.loop in
    let a = last_arg _ _ _ c.requires.flattened.1.nodes loop.end _ loop.invariant.1.0 loop.invariant.0 loop.invariant.1.1 (λ e. omega arith) in
    omega (arith, a.two)

pub node-end-requires : goal.node-end-requires
node-end-requires c = let loop = c.loop in
    let a = last_arg _ _ _ c.requires.flattened.1.nodes loop.end _ loop.invariant.1.0 loop.invariant.0 loop.invariant.1.1 (λ e. omega arith) in
    (omega (arith, c.requires.flattened.1.long), omega (arith, a.two, loop.invariant.0), omega arith)

pub overflow_sub-end-in-loop : goal.overflow_sub-end-in-loop
overflow_sub-end-in-loop c = let loop = c.loop in
    let a = last_arg _ _ _ c.requires.flattened.1.nodes loop.end _ loop.invariant.1.0 loop.invariant.0 loop.invariant.1.1 (λ e. omega arith) in
    omega (arith, a.within, c.node-end.ensures.0)

pub loop-preserved : goal.loop-preserved
loop-preserved c = let loop = c.loop in
    let a = last_arg _ _ _ c.requires.flattened.1.nodes loop.end _ loop.invariant.1.0 loop.invariant.0 loop.invariant.1.1 (λ e. omega arith) in
    let less : c.node-left.result + (c.args.i + 1) - (loop.counter + 1) ≡ c.node-left.result + (c.args.i + 1) - loop.counter - 1 = omega arith in
    rw (less, c.node-end.ensures.0) (omega (arith, loop.invariant.0), (_, a.rest), loop.invariant.2 ∙ arg_before _ _ _ _ (omega arith))

pub overflow_sub-result : goal.overflow_sub-result
overflow_sub-result c = let loop = c.loop in
    let a = last_arg _ _ _ c.requires.flattened.1.nodes loop.end _ loop.invariant.1.0 loop.invariant.0 loop.invariant.1.1 (λ e. omega arith) in
    omega (arith, a.two)

pub returns : goal.returns
returns c = sym (c.loop.invariant.2 ∙ arg_last _ _ _ _ (omega (arith, c.requires.few, c.node-left.ensures.0)))
