use mathlib.Core.Path.{sym, ◌∙◌}
use native.Mathlib.Omega.{arith}
use Rattle.ast.proofs.Fields.{length_section}
use Rattle.functions.specs.Lists.{place}
use Rattle.area.specs.Sections.{stmts_at, deps_at}
use Rattle.area.specs.Listing.{found_as}
use Rattle.area.proofs.Listings.{found_one}
use Rattle.area.specs.Views.{stmts_seen}
use Rattle.builder.specs.Fating.{is_fated}
use Rattle.builder.specs.Starting.{place_as}
use Rattle.definitions.proofs.ListLaws.{place_below}
use Rattle.builder.proofs.laws.HeldSteps.{place_few}
use Rattle.builder.proofs.laws.StartingLaws.{state_bare, state_lacks, state_free, state_algebraic, state_starts}
use Rattle.builder.proofs.errors.conditions.state_error.Goals as goal

pub returns-in_err-held : goal.returns-in_err-held
unfolding found_as
returns-in_err-held c = let a = c.args in
    let p = c.requires in
    rw c.from_residual.ensures (sym (state_bare _ _ _ _ _ _ (c.var.ensures ∙ p.1.held a.v p.2) (omega (arith, c.in_err-held.ensures))))

pub is_stmt-rate-requires : goal.is_stmt-rate-requires
unfolding deps_at place
is_stmt-rate-requires c = let a = c.args in
    let p = c.requires in
    let rs = stmts_seen a.area.now in
    (p.1.small, omega (arith, p.1.long), omega (arith, c.var.ensures, p.1.held a.v p.2, place_few (is_fated 2 a.v) 0 rs, length_section 8 a.area.now.sizes.stmts (stmts_at a.area.now.sizes) a.area.now.bytes.now, c.in_ok-held.ensures))

pub returns-then-rate-none : goal.returns-then-rate-none
returns-then-rate-none c = let a = c.args in
    let p = c.requires in
    let e = rw c.var-name.ensures at c.model_error.ensures in
    found_one _ _ e ∙ sym (state_lacks _ _ _ _ _ _ (c.var.ensures ∙ p.1.held a.v p.2) (λ e. omega (arith, e, c.in_ok-held.ensures)) _ _ (rw c.in_ok-held.ensures.1 at c.is_stmt-rate.ensures) (c.var-none.ensures ∙ p.1.initial a.v p.2) c.if-rate-none.true)

pub returns-then-rate-none-2 : goal.returns-then-rate-none-2
unfolding found_as
returns-then-rate-none-2 c = let a = c.args in
    let p = c.requires in
    sym (state_free _ _ _ _ _ _ (c.var.ensures ∙ p.1.held a.v p.2) (λ e. omega (arith, e, c.in_ok-held.ensures)) _ _ (rw c.in_ok-held.ensures.1 at c.is_stmt-rate.ensures) (c.var-none.ensures ∙ p.1.initial a.v p.2) c.if-rate-none.false c.if-rate-none-2.true)

pub condition_error-requires : goal.condition_error-requires
unfolding place_as place
condition_error-requires c = let a = c.args in
    let few = place_below (is_fated 1 a.v) 0 (stmts_seen a.area.now) _ (sym c.in_ok-i.ensures) in
    (c.requires.1, omega (arith, few, length_section 8 a.area.now.sizes.stmts (stmts_at a.area.now.sizes) a.area.now.bytes.now))

pub returns : goal.returns
unfolding place_as
returns c = let a = c.args in
    let p = c.requires in
    let e = rw c.var-2.ensures at c.condition_error.ensures in
    found_one _ _ e ∙ sym (state_algebraic _ _ _ _ _ _ (c.var.ensures ∙ p.1.held a.v p.2) (λ e. omega (arith, e, c.in_ok-held.ensures)) _ _ (rw c.in_ok-held.ensures.1 at c.is_stmt-rate.ensures) (c.var-none.ensures ∙ p.1.initial a.v p.2) c.if-rate-none-2.false _ c.in_ok-i.ensures)

pub returns-in_err-i : goal.returns-in_err-i
unfolding found_as place_as
returns-in_err-i c = let a = c.args in
    let p = c.requires in
    rw c.from_residual-in_err-i.ensures (sym (state_starts _ _ _ _ _ _ (c.var.ensures ∙ p.1.held a.v p.2) (λ e. omega (arith, e, c.in_ok-held.ensures)) _ _ (rw c.in_ok-held.ensures.1 at c.is_stmt-rate.ensures) (c.var-none.ensures ∙ p.1.initial a.v p.2) c.if-rate-none-2.false c.in_err-i.ensures))
