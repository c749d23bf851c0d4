-- `builder::builder::domain_error` meets its contract: by the domain that is read.
use mathlib.Core.Path.{sym, ◌∙◌}
use native.Mathlib.Omega.{arith}
use Rattle.builder.proofs.laws.Sourced.{unknown_classed}
use Rattle.area.specs.Listing.{found_as}
use Rattle.builder.proofs.laws.ModelErrors.{domain_none, domain_range, domain_below, domain_small, domain_named}
use Rattle.builder.proofs.errors.builder.domain_error.Goals as goal

pub bounds-names-name : goal.bounds-names-name
bounds-names-name c = let p = unknown_classed c.args.names.now c.args.u c.requires in
    let read = c.domain in
    omega (arith, domain_below p read.result read.ensures _ c.in-Named.is, c.args.names.now.long)

pub unknown_error-requires : goal.unknown_error-requires
unknown_error-requires c = let p = unknown_classed c.args.names.now c.args.u c.requires in
    let read = c.domain in
    (p.within, omega (arith, domain_small p read.result read.ensures _ c.in-Named.is))

pub returns-in-None : goal.returns-in-None
unfolding found_as
returns-in-None c = let read = c.domain in
    sym (domain_none (unknown_classed c.args.names.now c.args.u c.requires) read.result read.ensures c.in-None.is)

pub returns-in-Span : goal.returns-in-Span
unfolding found_as
returns-in-Span c = let read = c.domain in
    sym (domain_range (unknown_classed c.args.names.now c.args.u c.requires) read.result read.ensures _ _ c.in-Span.is)

pub returns-in-Named : goal.returns-in-Named
returns-in-Named c = let read = c.domain in
    c.unknown_error.ensures ∙ sym (domain_named (unknown_classed c.args.names.now c.args.u c.requires) read.result read.ensures _ c.in-Named.is _ _ c.eq.ensures c.eq-in-Named.ensures)
