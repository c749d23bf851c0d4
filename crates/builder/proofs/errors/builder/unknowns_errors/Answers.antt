use Prim.Native.Nat.{◌+◌}
use native.Mathlib.Omega.{arith}
use Rattle.ast.specs.Opens.{file_in}
use Rattle.definitions.specs.Variables.{unknown_errors}
use Rattle.definitions.specs.Flatten.{model_at}
use Rattle.builder.specs.Checking.{unknown_in}
use Rattle.builder.proofs.laws.Runs.{unknowns_below}
use Rattle.builder.proofs.laws.ModelErrors.{run_begins_lent, run_room_lent, run_goes_lent, run_ends_lent, unknown_here, unknown_there, unknowns_past}
use Rattle.builder.proofs.errors.builder.unknowns_errors.Goals as goal

pub loop-u-init : goal.loop-u-init
loop-u-init c = let a = c.args in
    (0, omega arith, run_begins_lent (unknown_errors (file_in a.names.now.file.bytes.now a.names.now.file.sections).names) (model_at (file_in a.names.now.file.bytes.now a.names.now.file.sections) a.m).unknowns _)

pub unknown_errors-requires : goal.unknown_errors-requires
unknown_errors-requires c = let a = c.args in
    let p = c.requires in
    let model = c.model-first in
    let model2 = c.model-unknowns in
    let loop = c.loop-u in
    let inv = loop.invariant in
    let loop-test = c.loop-u-test in
    let there = unknown_there a.names.now.file.bytes.now a.names.now.file.sections c.args.names.now.file.opened a.m p.0 model.result model2.result loop.u inv.0 inv.1 model.ensures.0 model2.ensures.0 loop-test.true in
    let here = unknown_here a.names.now.file.bytes.now a.names.now.file.sections c.args.names.now.file.opened a.m p.0 model.result model2.result loop.u inv.0 inv.1 model.ensures.0 model2.ensures.0 loop-test.true in
    (unknowns_below a.names.now.file.bytes.now a.names.now.file.sections c.args.names.now.file.opened a.m p.0 model.result model2.result loop.u model.ensures.0 model2.ensures.0 loop-test.true, run_room_lent (unknown_errors (file_in a.names.now.file.bytes.now a.names.now.file.sections).names) (model_at (file_in a.names.now.file.bytes.now a.names.now.file.sections) a.m).unknowns (unknown_in a.names.now.file.bytes.now a.names.now.file.sections loop.u) inv.0 there here p.1 inv.2)

pub loop-u-preserved : goal.loop-u-preserved
loop-u-preserved c = let a = c.args in
    let p = c.requires in
    let model = c.model-first in
    let model2 = c.model-unknowns in
    let loop = c.loop-u in
    let inv = loop.invariant in
    let loop-test = c.loop-u-test in
    let there = unknown_there a.names.now.file.bytes.now a.names.now.file.sections c.args.names.now.file.opened a.m p.0 model.result model2.result loop.u inv.0 inv.1 model.ensures.0 model2.ensures.0 loop-test.true in
    let here = unknown_here a.names.now.file.bytes.now a.names.now.file.sections c.args.names.now.file.opened a.m p.0 model.result model2.result loop.u inv.0 inv.1 model.ensures.0 model2.ensures.0 loop-test.true in
    (inv.0 + 1, omega (arith, inv.1), run_goes_lent (unknown_errors (file_in a.names.now.file.bytes.now a.names.now.file.sections).names) (model_at (file_in a.names.now.file.bytes.now a.names.now.file.sections) a.m).unknowns (unknown_in a.names.now.file.bytes.now a.names.now.file.sections loop.u) inv.0 there here inv.2 c.unknown_errors.ensures)

pub returns : goal.returns
returns c = let a = c.args in
    let p = c.requires in
    let model = c.model-first in
    let model2 = c.model-unknowns in
    let loop = c.loop-u in
    let inv = loop.invariant in
    run_ends_lent (unknown_errors (file_in a.names.now.file.bytes.now a.names.now.file.sections).names) (model_at (file_in a.names.now.file.bytes.now a.names.now.file.sections) a.m).unknowns inv.0 (unknowns_past a.names.now.file.bytes.now a.names.now.file.sections c.args.names.now.file.opened a.m p.0 model.result model2.result loop.u inv.0 inv.1 model.ensures.0 model2.ensures.0 c.loop-u-test.false) inv.2
