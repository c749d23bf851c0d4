use mathlib.Core.Path.{◌≡◌}
use Prim.Native.Nat.{◌+◌, ◌<◌}
use native.Mathlib.Omega.{arith}
use lib.ListN.{length, get_or}
use Rattle.builder.specs.VariableTables.{unknown_in, kept_by}
use Rattle.builder.proofs.laws.OpenUnknowns.{deps_within, deps_count, deps_at_lem}
use Rattle.builder.proofs.laws.PutWords.{numbered, runs_first, runs_room, runs_next, runs_last}
use Rattle.builder.proofs.variables.roster.put_unknown_deps.Goals as goal
use Rattle.builder.proofs.variables.roster.put_unknown_deps.Goals.{After-dep}

pub loop-d-init : goal.loop-d-init
unfolding kept_by numbered
loop-d-init c = (0, omega arith, runs_first _ _ _ _ c.requires.2)

pub dep-requires : goal.dep-requires
dep-requires c = let a = c.args in
    let p = c.requires in
    omega (arith, deps_within a.file.now.bytes.now a.file.now.sections c.args.file.now.opened a.u p.0 _ _ c.unknown-first.ensures.0 c.unknown-count.ensures.0)

-- what was read is the dependent that the loop is at, a name
dep_here : (c : After-dep) → (let deps = (unknown_in c.args.file.now.bytes.now c.args.file.now.sections c.args.u).deps in (c.loop-d.invariant.0 < length deps) × (c.dep.result ≡ get_or deps c.loop-d.invariant.0 0) × (c.dep.result < c.args.file.now.sections.counts.names))
dep_here c = let a = c.args in
    let p = c.requires in
    let (is, name) = deps_at_lem a.file.now.bytes.now a.file.now.sections c.args.file.now.opened a.u p.0 _ _ c.unknown-first.ensures.0 c.unknown-count.ensures.0 c.loop-d.invariant.0 _ c.dep.result c.loop-d.invariant.1 (omega (arith, c.loop-d-test.true, c.loop-d.invariant.1)) c.dep.ensures.0 in
    (omega (arith, c.loop-d-test.true, c.loop-d.invariant.1, deps_count a.file.now.bytes.now a.file.now.sections c.args.file.now.opened a.u p.0 _ _ c.unknown-first.ensures.0 c.unknown-count.ensures.0), is, name)

pub offset_bounds-numbers-dep : goal.offset_bounds-numbers-dep
offset_bounds-numbers-dep c = omega (arith, (dep_here (goal.at.offset_bounds-numbers-dep c).After-dep).2, c.args.file.now.opened.laid.within.names)

pub bounds-numbers-dep : goal.bounds-numbers-dep
bounds-numbers-dep c = omega (arith, (dep_here (goal.at.bounds-numbers-dep c).After-dep).2, c.args.file.now.opened.laid.within.names)

pub put_dep-total-requires : goal.put_dep-total-requires
unfolding kept_by numbered
put_dep-total-requires c = let d = dep_here (goal.at.put_dep-total-requires c).After-dep in
    runs_room _ _ _ _ c.requires.2 _ _ _ c.loop-d.invariant.2 0 _ d.0 d.1

pub loop-d-preserved : goal.loop-d-preserved
unfolding kept_by numbered
loop-d-preserved c = let d = dep_here (goal.at.loop-d-preserved c).After-dep in
    let put = c.put_dep-total.ensures in
    let inv = c.loop-d.invariant in
    (inv.0 + 1, omega (arith, inv.1), runs_next _ _ _ _ c.requires.2 _ _ _ inv.2 0 _ _ _ d.0 d.1 put.0 put.1)

pub returns : goal.returns
unfolding kept_by numbered
returns c = let a = c.args in
    let p = c.requires in
    runs_last _ _ _ _ p.2 _ _ _ c.loop-d.invariant.2 (omega (arith, c.loop-d-test.false, c.loop-d.invariant.1, deps_count a.file.now.bytes.now a.file.now.sections c.args.file.now.opened a.u p.0 _ _ c.unknown-first.ensures.0 c.unknown-count.ensures.0))
