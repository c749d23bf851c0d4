use native.Mathlib.Omega.{arith}
use Rattle.builder.proofs.laws.VarsWritten.{vars_none, vars_next, vars_more, vars_all}
use Rattle.builder.proofs.variables.records.write_vars.Goals as goal

pub loop-v-init : goal.loop-v-init
loop-v-init c = let a = c.args in
    let p = c.requires in
    vars_none a.names.now.file.bytes.now a.names.now.file.sections a.names.now.file.opened a.m a.z a.area.now p.2

pub write_var-done-requires : goal.write_var-done-requires
write_var-done-requires c = let a = c.args in
    let p = c.requires in
    (p.0, p.1, vars_next a.names.now.file.bytes.now a.names.now.file.sections a.names.now.file.opened a.m a.z a.area.now p.2 _ _ _ c.loop-v.invariant c.loop-v-test.true)

pub loop-v-preserved : goal.loop-v-preserved
loop-v-preserved c = let a = c.args in
    let p = c.requires in
    vars_more a.names.now.file.bytes.now a.names.now.file.sections a.names.now.file.opened a.m a.z a.area.now p.2 _ _ _ c.loop-v.invariant c.loop-v-test.true _ _ c.write_var-done.ensures

pub returns : goal.returns
returns c = let a = c.args in
    let p = c.requires in
    vars_all a.names.now.file.bytes.now a.names.now.file.sections a.names.now.file.opened a.m a.z a.area.now p.2 _ _ _ c.loop-v.invariant (omega arith)
