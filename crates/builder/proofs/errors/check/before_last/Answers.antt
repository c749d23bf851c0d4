-- `builder::check::before_last` meets its contract: by the size of the last argument's node.
use native.Mathlib.Omega.{arith}
use Rattle.builder.proofs.laws.Checks.{arg_last, arg_within}
use Rattle.builder.proofs.errors.check.before_last.Goals as goal

pub overflow_sub-run : goal.overflow_sub-run
overflow_sub-run c = let p = c.requires in
    let l = arg_last p.0.1 (λ e. omega (arith, e, p.1)) in
    omega (arith, l.two)

pub word-size-requires : goal.word-size-requires
word-size-requires c = let p = c.requires in
    (arg_within p.0.1 (λ e. omega (arith, e, p.1)), omega arith)

pub overflow_sub-end : goal.overflow_sub-end
overflow_sub-end c = let p = c.requires in
    let l = arg_last p.0.1 (λ e. omega (arith, e, p.1)) in
    omega (arith, c.word-size.ensures.0, l.within)

pub overflow_sub-total : goal.overflow_sub-total
overflow_sub-total c = let p = c.requires in
    let l = arg_last p.0.1 (λ e. omega (arith, e, p.1)) in
    omega (arith, c.word-size.ensures.0, l.le)
