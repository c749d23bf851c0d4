use mathlib.Core.Path.{sym, ap, ◌∙◌}
use lib.ListN.{get_or}
use Rattle.builder.specs.Bounding.{bounds_from, floats, case_bounds}
use Rattle.builder.specs.declared.names.Class.TheVariants.{Time}
use Rattle.builder.proofs.laws.Classes.{non_negative_number}
use Rattle.builder.proofs.laws.BoundLaws.{below_is}
use Rattle.builder.proofs.variables.bounds.domain_bounds.Goals as goal

pub bounds-classes-n : goal.bounds-classes-n
bounds-classes-n c = below_is _ _ _ c.in-Named.is c.requires

pub returns-in-Span : goal.returns-in-Span
unfolding case_bounds
returns-in-Span c = let a = c.args in
    sym (ap (λ d. case_bounds d a.time a.classes.now) c.in-Span.is)

pub returns-in-Named : goal.returns-in-Named
unfolding case_bounds
returns-in-Named c = let a = c.args in
    c.bounds_from.ensures ∙ ap (λ b. floats (bounds_from b)) (c.eq.ensures ∙ non_negative_number (get_or a.classes.now c.in-Named.n Time)) ∙ sym (ap (λ d. case_bounds d a.time a.classes.now) c.in-Named.is)

pub returns-in-None : goal.returns-in-None
unfolding case_bounds
returns-in-None c = let a = c.args in
    c.bounds_from-in-None.ensures ∙ sym (ap (λ d. case_bounds d a.time a.classes.now) c.in-None.is)
