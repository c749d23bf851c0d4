use mathlib.Core.Path.{◌≡◌, sym}
use Prim.Native.Nat.{◌+◌, ◌<◌}
use native.Mathlib.Omega.{arith}
use lib.ListN.{length, get_or}
use Rattle.definitions.specs.Variables.{kept_deps}
use Rattle.builder.specs.VariableTables.{unknowns_in, unknown_in, roster_in, kept_named}
use Rattle.builder.proofs.laws.OpenUnknowns.{no_unknown, unknown_deps_below, run_within, run_count, run_unknown}
use Rattle.builder.proofs.laws.PutWords.{of_named, named_kept, runs_first, runs_room, runs_next, runs_last}
use Rattle.builder.proofs.variables.roster.set_dependents.Goals as goal
use Rattle.builder.proofs.variables.roster.set_dependents.Goals.{In-loop-u}

pub loop-u-init : goal.loop-u-init
unfolding kept_deps of_named
loop-u-init c = (0, omega arith, runs_first (of_named _ _) _ _ _ c.requires.1)

-- the unknown that the loop is at: it is one of the model's, and its dependents that are kept
within : (c : In-loop-u) → c.loop-u.u < c.args.file.now.sections.counts.unknowns
within c = let a = c.args in
    let p = c.requires.0 in
    omega (arith, run_within a.file.now.bytes.now a.file.now.sections p.opened a.m p.model _ _ c.model-first.ensures.0 c.model-count.ensures.0)

listed : (c : In-loop-u) → (let us = unknowns_in c.args.file.now.bytes.now c.args.file.now.sections c.args.m in (c.loop-u.invariant.0 < length us) × (unknown_in c.args.file.now.bytes.now c.args.file.now.sections c.loop-u.u ≡ get_or us c.loop-u.invariant.0 no_unknown))
listed c = let a = c.args in
    let p = c.requires.0 in
    (omega (arith, c.loop-u-test.true, c.loop-u.invariant.1, run_count a.file.now.bytes.now a.file.now.sections p.opened a.m p.model _ _ c.model-first.ensures.0 c.model-count.ensures.0), sym (run_unknown a.file.now.bytes.now a.file.now.sections p.opened a.m p.model _ _ c.model-first.ensures.0 c.model-count.ensures.0 c.loop-u.invariant.0 _ c.loop-u.invariant.1 (omega (arith, c.loop-u-test.true, c.loop-u.invariant.1))))

kept : (c : In-loop-u)
    → (let u = unknown_in c.args.file.now.bytes.now c.args.file.now.sections c.loop-u.u in kept_named c.args.numbers.now c.args.name u ≡ of_named (roster_in c.args.file.now.bytes.now c.args.file.now.sections c.args.m) c.args.name u)
kept c = let a = c.args in
    let p = c.requires.0 in
    named_kept (roster_in a.file.now.bytes.now a.file.now.sections a.m) a.numbers.now a.name _ p.numbered (λ j h. omega (arith, unknown_deps_below a.file.now.bytes.now a.file.now.sections p.opened _ (within c) j h, p.opened.laid.within.names))

pub put_named_deps-total-requires : goal.put_named_deps-total-requires
unfolding kept_deps of_named
put_named_deps-total-requires c = let p = c.requires in
    let v = (goal.at.put_named_deps-total-requires c).In-loop-u in
    let l = listed v in
    (within v, p.0.long, rw (kept v) (runs_room _ _ _ _ p.1 _ _ _ c.loop-u.invariant.2 no_unknown _ l.0 l.1))

pub loop-u-preserved : goal.loop-u-preserved
unfolding kept_deps of_named
loop-u-preserved c = let v = (goal.at.loop-u-preserved c).In-loop-u in
    let l = listed v in
    let put = c.put_named_deps-total.ensures in
    let inv = c.loop-u.invariant in
    (inv.0 + 1, omega (arith, inv.1), runs_next _ _ _ _ c.requires.1 _ _ _ inv.2 no_unknown _ _ _ l.0 l.1 (rw (kept v) at put.0) (rw (kept v) at put.1))

pub returns : goal.returns
unfolding kept_deps of_named
returns c = let a = c.args in
    let p = c.requires in
    runs_last _ _ _ _ p.1 _ _ _ c.loop-u.invariant.2 (omega (arith, c.loop-u-test.false, c.loop-u.invariant.1, run_count a.file.now.bytes.now a.file.now.sections p.0.opened a.m p.0.model _ _ c.model-first.ensures.0 c.model-count.ensures.0))
