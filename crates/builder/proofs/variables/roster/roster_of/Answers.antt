use mathlib.Core.Path.{◌≡◌, refl, sym, ◌∙◌}
use Prim.Native.Nat.{◌+◌, ◌<◌}
use native.Mathlib.Omega.{arith}
use lib.ListN.{length, get_or}
use Rattle.ast.specs.Opens.{file_in}
use Rattle.area.proofs.VarsWritten.{grown_then, vars_stay, vars_grow}
use Rattle.builder.specs.VariableTables.{unknowns_in}
use Rattle.builder.specs.Allocating.{names_in}
use Rattle.builder.proofs.laws.Open.{names_long}
use Rattle.builder.proofs.laws.ScopeTables.{time_below}
use Rattle.builder.proofs.laws.Ranges.{place_within}
use Rattle.builder.proofs.laws.OpenUnknowns.{no_unknown, run_within, run_count, run_name}
use Rattle.builder.proofs.laws.Rosters.{room_first, room_kept, reserved_in, roster_first, roster_next, roster_pass, roster_last}
use Rattle.builder.proofs.variables.roster.roster_of.Goals as goal
use Rattle.builder.proofs.variables.roster.roster_of.Goals.{After-unknown-name, then-not-is_reserved, else-not-is_reserved}

pub time_alone-requires : goal.time_alone-requires
time_alone-requires c = let a = c.args in
    let p = c.requires in
    (place_within c.time_name.result 256 (omega (arith, a.names.now.file.opened.laid.within.names, time_below (file_in a.names.now.file.bytes.now a.names.now.file.sections).names, names_long a.names.now.file.bytes.now a.names.now.file.sections, c.time_name.ensures)), room_first a.n a.q a.area.now p.1, refl, p.2)

pub loop-u-init : goal.loop-u-init
loop-u-init c = let a = c.args in
    (0, omega arith, omega arith, record { nodes = refl; stmts = refl; vars = omega arith; deps = refl }, roster_first a.names.now.file.bytes.now a.names.now.file.sections a.m _ _ _ c.time_name.ensures c.time_alone.ensures.0, vars_stay _ _)

pub unknown-name-requires : goal.unknown-name-requires
unknown-name-requires c = let a = c.args in
    let p = c.requires.0 in
    (omega (arith, run_within a.names.now.file.bytes.now a.names.now.file.sections a.names.now.file.opened a.m p _ _ c.model-first.ensures.0 c.model-count.ensures.0), omega arith)

-- what was read is the name of the unknown that the loop is at
name_here : (c : After-unknown-name) → ((get_or (unknowns_in c.args.names.now.file.bytes.now c.args.names.now.file.sections c.args.m) c.loop-u.invariant.0 no_unknown).name ≡ c.unknown-name.result) × (c.unknown-name.result < c.args.names.now.file.sections.counts.names)
name_here c = let a = c.args in
    let p = c.requires.0 in
    run_name a.names.now.file.bytes.now a.names.now.file.sections a.names.now.file.opened a.m p _ _ c.model-first.ensures.0 c.model-count.ensures.0 c.loop-u.invariant.0 _ _ c.loop-u.invariant.1 (omega (arith, c.loop-u-test.true, c.loop-u.invariant.1)) c.unknown-name.ensures.0

pub bounds-names-name : goal.bounds-names-name
bounds-names-name c = omega (arith, (name_here (goal.at.bounds-names-name c).After-unknown-name).1, c.args.names.now.file.opened.laid.within.names)

pub declare-z-requires : goal.declare-z-requires
declare-z-requires c = let a = c.args in
    let p = c.requires in
    let loop = c.loop-u in
    let few : loop.z.vars < 129 = omega (arith, c.loop-u-test.true, loop.invariant.1, loop.invariant.2, run_within a.names.now.file.bytes.now a.names.now.file.sections a.names.now.file.opened a.m p.0 _ _ c.model-first.ensures.0 c.model-count.ensures.0, a.names.now.file.opened.laid.within.unknowns) in
    (room_kept _ a.area.now loop.area (room_first a.n a.q a.area.now p.1) loop.z loop.invariant.3 (omega (arith, few)) (omega arith), loop.invariant.4.0, few, omega (arith, (name_here (goal.at.declare-z-requires c).After-unknown-name).1, a.names.now.file.opened.laid.within.names))

pub loop-u-preserved : goal.loop-u-preserved
loop-u-preserved c = let a = c.args in
    let p = c.requires.0 in
    let loop = c.loop-u in
    let name = c.unknown-name.result in
    let n = name_here (goal.at.loop-u-preserved c).After-unknown-name in
    let inv = loop.invariant in
    let below : inv.0 < length (unknowns_in a.names.now.file.bytes.now a.names.now.file.sections a.m) = omega (arith, c.loop-u-test.true, inv.1, run_count a.names.now.file.bytes.now a.names.now.file.sections a.names.now.file.opened a.m p _ _ c.model-first.ensures.0 c.model-count.ensures.0) in
    let q = sym (reserved_in a.names.now.file.bytes.now a.names.now.file.sections a.names.now.classes.now a.names.now.file.opened a.names.now.classed name n.1) ∙ sym c.is_reserved.ensures in
    elim c.if-not-is_reserved.branch [
      | then-not-is_reserved w ↦ let d = w.declare-z.ensures in rw (w.area-is, w.numbers-is, w.z-is) (inv.0 + 1, omega (arith, inv.1), omega (arith, d.2, inv.2), grown_then _ _ _ inv.3 d.1, roster_next a.names.now.file.bytes.now a.names.now.file.sections a.m inv.0 name (names_in loop.area loop.z) inv.4.1 below n.0 _ _ (q ∙ w.if-not-is_reserved.true) d.0, vars_grow _ _ _ _ _ _ _ d.1 inv.5 d.3)
      | else-not-is_reserved w ↦ rw (w.area-is, w.numbers-is, w.z-is) (inv.0 + 1, omega (arith, inv.1), omega (arith, inv.2), inv.3, (inv.4.0, roster_pass a.names.now.file.bytes.now a.names.now.file.sections a.m inv.0 name (names_in loop.area loop.z) inv.4.1 below n.0 (q ∙ w.if-not-is_reserved.false)), inv.5)
    ]

pub returns : goal.returns
returns c = let a = c.args in
    let p = c.requires.0 in
    let loop = c.loop-u in
    let grown = loop.invariant.3 in
    record {
      listing = roster_last a.names.now.file.bytes.now a.names.now.file.sections a.m loop.invariant.0 (names_in loop.area loop.z) loop.numbers loop.invariant.4.0 loop.invariant.4.1 (omega (arith, c.loop-u-test.false, loop.invariant.1, run_count a.names.now.file.bytes.now a.names.now.file.sections a.names.now.file.opened a.m p _ _ c.model-first.ensures.0 c.model-count.ensures.0));
      nodes = grown.nodes;
      stmts = grown.stmts;
      deps = grown.deps;
      kept = vars_grow _ _ _ _ _ _ _ grown c.time_alone.ensures.1 loop.invariant.5;
    }
