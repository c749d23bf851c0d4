use mathlib.Core.Path.{sym, ◌∙◌}
use native.Mathlib.Omega.{arith}
use Rattle.builder.specs.Allocating.{Narrow}
use Rattle.builder.proofs.laws.Flats.{number_fits, role_lower, role_wrong, role_short, role_nothing}
use Rattle.builder.proofs.allocation.roles.start_role.Goals as goal

pub overflow_sub-arg : goal.overflow_sub-arg
overflow_sub-arg c = let s = c.in-Some-Number in
    (number_fits _ _ _ _ _ s.is (rw s.is at s.field-0-is) c.requires.2).1

pub node_bits-bits-requires : goal.node_bits-bits-requires
node_bits-bits-requires c = let s = c.in-Some-Number in
    let n = number_fits _ _ _ _ _ s.is (rw s.is at s.field-0-is) c.requires.2 in
    (omega (arith, c.requires.0), omega (arith, n.1, n.2), omega arith)

pub returns-then-same_number : goal.returns-then-same_number
unfolding Narrow
returns-then-same_number c = let s = c.in-Some-Number in
    let n = number_fits _ _ _ _ _ s.is (rw s.is at s.field-0-is) c.requires.2 in
    (λ f. rw c.from.ensures (role_lower _ _ _ _ _ s.is _ _ (rw s.is at s.field-0-is) (rw (← c.node_bits-bits.ensures) (sym c.same_number.ensures ∙ c.if-same_number.true))), omega (arith, n.0, c.requires.1.vars, c.from.ensures))

pub returns-else-same_number : goal.returns-else-same_number
unfolding Narrow
returns-else-same_number c = let s = c.in-Some-Number in
    (λ f. role_wrong _ _ _ _ _ s.is _ _ (rw s.is at s.field-0-is) (rw (← c.node_bits-bits.ensures) (sym c.same_number.ensures ∙ c.if-same_number.false)), tt)

pub returns-in-Some-Short : goal.returns-in-Some-Short
unfolding Narrow
returns-in-Some-Short c = (λ f. role_short _ _ _ _ _ c.in-Some-Short.is (rw c.in-Some-Short.is at c.in-Some-Short.field-0-is), tt)

pub returns-in-None : goal.returns-in-None
unfolding Narrow
returns-in-None c = (λ f. role_nothing _ _ _ _ c.in-None.is, tt)
