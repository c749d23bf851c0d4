use mathlib.Core.Path.{◌∙◌}
use native.Mathlib.Omega.{arith}
use Rattle.area.specs.Sections.{stmts_at, vars_at}
use Rattle.builder.proofs.laws.VarsWritten.{next_room, next_end, lead_asked, record_room, next_written}
use Rattle.builder.proofs.variables.records.write_var.Goals as goal

pub set_dependents-end-requires : goal.set_dependents-end-requires
set_dependents-end-requires c = let a = c.args in
    let p = c.requires in
    let name = c.var-name.ensures ∙ p.2.named in
    (p.1, next_room a.names.now.file.bytes.now a.names.now.file.sections a.m a.z a.area.now a.v a.done p.2 _ _ name c.deps_at-from.ensures)

pub lead_of-lead-requires : goal.lead_of-lead-requires
lead_of-lead-requires c = let a = c.args in
    let p = c.requires in
    let name = c.var-name.ensures ∙ p.2.named in
    let at = c.deps_at-from.ensures in
    let behind = c.set_dependents-end.ensures in
    lead_asked a.names.now.file.bytes.now a.names.now.file.sections a.m a.z a.area.now a.v a.done p.2 _ _ _ _ name at behind

pub overflow_add-place : goal.overflow_add-place
unfolding stmts_at vars_at
overflow_add-place c = let p = c.requires in
    omega (arith, c.vars_at.ensures, p.2.below, p.2.small.nodes, p.2.small.stmts, p.2.small.vars)

pub put_variable-requires : goal.put_variable-requires
put_variable-requires c = let a = c.args in
    let p = c.requires in
    let name = c.var-name.ensures ∙ p.2.named in
    let at = c.deps_at-from.ensures in
    let behind = c.set_dependents-end.ensures in
    let lead = c.lead_of-lead.ensures in
    let order = next_end a.names.now.file.bytes.now a.names.now.file.sections a.m a.z a.area.now a.v a.done p.2 _ _ _ _ name at behind in
    (p.0, record_room a.names.now.file.bytes.now a.names.now.file.sections a.m a.z a.area.now a.v a.done p.2 _ _ _ _ name at behind _ c.vars_at.ensures, omega (arith, lead.first_of, lead.end_of, order))

pub returns : goal.returns
returns c = let a = c.args in
    let p = c.requires in
    let name = c.var-name.ensures ∙ p.2.named in
    let at = c.deps_at-from.ensures in
    let behind = c.set_dependents-end.ensures in
    (next_end a.names.now.file.bytes.now a.names.now.file.sections a.m a.z a.area.now a.v a.done p.2 _ _ _ _ name at behind, next_written a.names.now.file.bytes.now a.names.now.file.sections a.m a.z a.area.now a.v a.done p.2 _ _ _ _ name at behind _ _ _ c.vars_at.ensures c.lead_of-lead.ensures c.put_variable.ensures)
