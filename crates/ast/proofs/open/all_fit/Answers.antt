use native.Mathlib.Omega.{arith}
use mathlib.Core.Path.{sym, ◌∙◌}
use Rattle.ast.specs.File.{contents_of, all_fit}
use Rattle.ast.proofs.Opened.{laid_ranges}
use Rattle.ast.proofs.open.all_fit.Goals as goal

pub invariant_of-section : goal.invariant_of-section
invariant_of-section c = record { lie = (laid_ranges _ _ _ c.requires.0 c.requires.1).names }

pub returns-then-not-names_fit : goal.returns-then-not-names_fit
unfolding all_fit contents_of
returns-then-not-names_fit c = let r = laid_ranges _ _ _ c.requires.0 c.requires.1 in
    rw (← r.starts.names, sym c.names_fit.ensures ∙ c.if-not-names_fit.true)

pub invariant_of-unknowns : goal.invariant_of-unknowns
invariant_of-unknowns c = record { lie = (laid_ranges _ _ _ c.requires.0 c.requires.1).unknowns }

pub invariant_of-models : goal.invariant_of-models
invariant_of-models c = record { lie = (laid_ranges _ _ _ c.requires.0 c.requires.1).models }

pub invariant_of-names_distinct : goal.invariant_of-names_distinct
invariant_of-names_distinct c = let r = laid_ranges _ _ _ c.requires.0 c.requires.1 in
    record { lie = record { lie = r.names; text = r.text; fit = sym c.names_fit.ensures ∙ c.if-not-names_fit.false } }

pub invariant_of-ns : goal.invariant_of-ns
invariant_of-ns c = record { lie = (laid_ranges _ _ _ c.requires.0 c.requires.1).nodes }

pub deps_fit-requires : goal.deps_fit-requires
deps_fit-requires c = (laid_ranges _ _ _ c.requires.0 c.requires.1).deps

pub unknowns_fit-requires : goal.unknowns_fit-requires
unknowns_fit-requires c = let p = c.requires in omega (arith, p.0.within.deps)

pub stmts_fit-requires : goal.stmts_fit-requires
stmts_fit-requires c = (laid_ranges _ _ _ c.requires.0 c.requires.1).stmts

pub models_fit-requires : goal.models_fit-requires
models_fit-requires c = let p = c.requires in
    let w = p.0.within in
    (omega (arith, w.unknowns), omega (arith, w.stmts))

pub returns : goal.returns
unfolding all_fit contents_of
returns c = let a = (laid_ranges _ _ _ c.requires.0 c.requires.1).starts in
    rw (← a.names, ← a.nodes, ← a.deps, ← a.unknowns, ← a.stmts, ← a.models, c.names_distinct.ensures, c.nodes_fit.ensures, c.deps_fit.ensures, c.unknowns_fit.ensures, c.stmts_fit.ensures, c.models_fit.ensures, sym c.names_fit.ensures ∙ c.if-not-names_fit.false)
