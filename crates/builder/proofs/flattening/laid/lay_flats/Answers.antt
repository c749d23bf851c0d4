use Rattle.builder.proofs.laws.FlatsLaid.{rows_root, flats_room, flats_laid}
use Rattle.builder.proofs.flattening.laid.lay_flats.Goals as goal

pub write_flats-requires : goal.write_flats-requires
write_flats-requires c = let a = c.args in
    let p = c.requires in
    (p.0.model, rows_root a.calls.now.file.bytes.now a.calls.now.file.sections a.rows.now a.m p.0.readable, flats_room a.calls.now.file.bytes.now a.calls.now.file.sections a.rows.now a.m a.area.now a.n p.2 p.1 p.0.few_nodes p.0.few_stmts)

pub returns : goal.returns
returns c = let a = c.args in
    flats_laid a.calls.now.file.bytes.now a.calls.now.file.sections a.rows.now a.m a.area.now a.n c.requires.2 _ _ c.write_flats.ensures.0
