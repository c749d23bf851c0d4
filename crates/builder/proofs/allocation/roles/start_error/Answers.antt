use mathlib.Core.Path.{sym, ◌∙◌}
use Rattle.area.specs.Listing.{found_as}
use Rattle.builder.proofs.laws.Flats.{number_fits}
use Rattle.builder.proofs.laws.RoleErrors.{number_calls, errors_number, errors_short, errors_nothing}
use Rattle.builder.proofs.allocation.roles.start_error.Goals as goal

pub number_error-requires : goal.number_error-requires
number_error-requires c = let p = c.requires in
    let s = c.in-Some-Number in
    let n = number_fits _ _ _ _ _ s.is (rw s.is at s.field-0-is) p.fits in
    record { small = p.small; long = p.long; behind = n.1; arg_within = n.2; within = p.within; named = number_calls _ _ _ _ _ _ s.is (rw s.is at s.field-0-is) p.calls }

pub returns-in-Some-Number : goal.returns-in-Some-Number
returns-in-Some-Number c = let s = c.in-Some-Number in
    c.number_error.ensures ∙ sym (errors_number _ _ _ _ _ s.is _ _ (rw s.is at s.field-0-is))

pub returns-in-Some-Short : goal.returns-in-Some-Short
unfolding found_as
returns-in-Some-Short c = sym (errors_short _ _ _ _ _ c.in-Some-Short.is (rw c.in-Some-Short.is at c.in-Some-Short.field-0-is))

pub returns-in-None : goal.returns-in-None
unfolding found_as
returns-in-None c = sym (errors_nothing _ _ _ _ c.in-None.is)
