use native.Mathlib.Omega.{arith}
use mathlib.Core.Path.{refl, ◌∙◌}
use mathlib.Core.Logic.{inl}
use mathlib.Core.Bool.{true, false}
use Rattle.std.specs.Prelude.{None}
use Rattle.ast.specs.Opens.{file_in}
use Rattle.definitions.specs.Flatten.{model_at}
use Rattle.builder.specs.Bounding.{bounds_from}
use Rattle.builder.proofs.laws.BoundLaws.{from_floating, declared_stands, stands_nans, stands_bits}
use Rattle.builder.proofs.laws.VarLaws.{bounds_of_time, bounds_of_other}
use Rattle.builder.proofs.variables.bounds.put_var_bounds.Goals as goal

pub put_bounds-requires : goal.put_bounds-requires
put_bounds-requires c = let a = c.args in
    let p = c.requires in
    (tt, stands_nans a.names.now.file.bytes.now a.names.now.file.sections None (bounds_from true) _ (from_floating true _ c.bounds_from.ensures) (inl (true, refl)), omega arith)

pub returns-then-v-eq0 : goal.returns-then-v-eq0
returns-then-v-eq0 c = let a = c.args in
    let p = c.requires in
    c.put_bounds.ensures ∙ rw (stands_bits a.names.now.file.bytes.now a.names.now.file.sections None (bounds_from true) _ (from_floating true _ c.bounds_from.ensures) (inl (true, refl)), bounds_of_time (file_in a.names.now.file.bytes.now a.names.now.file.sections).names (model_at (file_in a.names.now.file.bytes.now a.names.now.file.sections) a.m).unknowns a.name a.v c.if-v-eq0.true) refl

pub put_bounds-requires-2 : goal.put_bounds-requires-2
put_bounds-requires-2 c = let a = c.args in
    let p = c.requires in
    let l = c.last_declared-u in
    (l.ensures.within, stands_nans a.names.now.file.bytes.now a.names.now.file.sections l.result _ _ c.declared_bounds.ensures (declared_stands a.names.now.file.bytes.now a.names.now.file.sections l.result false), omega arith)

pub returns : goal.returns
returns c = let a = c.args in
    let l = c.last_declared-u in
    c.put_bounds-2.ensures ∙ rw (stands_bits a.names.now.file.bytes.now a.names.now.file.sections l.result _ _ c.declared_bounds.ensures (declared_stands a.names.now.file.bytes.now a.names.now.file.sections l.result false), bounds_of_other (file_in a.names.now.file.bytes.now a.names.now.file.sections).names (model_at (file_in a.names.now.file.bytes.now a.names.now.file.sections) a.m).unknowns a.name a.v c.if-v-eq0.false, l.ensures.bounds (bounds_from false)) refl
