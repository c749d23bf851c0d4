use native.Mathlib.Omega.{arith}
use mathlib.Core.Path.{refl, ◌∙◌}
use mathlib.Core.Bool.{true}
use Rattle.builder.specs.Bounding.{bounds_from}
use Rattle.builder.proofs.laws.BoundLaws.{last_stands, stands_nans, stands_bits}
use Rattle.builder.proofs.variables.bounds.put_time_bounds.Goals as goal

pub put_bounds-requires : goal.put_bounds-requires
unfolding bounds_from
put_bounds-requires c = let a = c.args in
    let p = c.requires in
    let l = c.last_declared in
    (l.ensures.within, stands_nans a.file.now.bytes.now a.file.now.sections l.result _ a.time p.1 (last_stands a.file.now.bytes.now a.file.now.sections a.m a.name l.result true l.ensures), omega arith)

pub returns : goal.returns
unfolding bounds_from
returns c = let a = c.args in
    let p = c.requires in
    let l = c.last_declared in
    c.put_bounds.ensures ∙ rw (stands_bits a.file.now.bytes.now a.file.now.sections l.result _ a.time p.1 (last_stands a.file.now.bytes.now a.file.now.sections a.m a.name l.result true l.ensures)) refl
