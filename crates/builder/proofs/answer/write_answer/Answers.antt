use Rattle.builder.proofs.laws.RootFinish.{allocate_needs, left_is, states_are, fates_are, held_needs, held_is}
use Rattle.builder.proofs.answer.write_answer.Goals as goal

pub allocate_stmts-left-requires : goal.allocate_stmts-left-requires
allocate_stmts-left-requires c = let p = c.requires in
    allocate_needs p.0 p.1

pub write_held-requires : goal.write_held-requires
write_held-requires c = let p = c.requires in
    held_needs p.0 (fates_are p.0 p.1 c.allocate_stmts-left.ensures)

pub finish-requires : goal.finish-requires
finish-requires c = let p = c.requires in
    let l = c.allocate_stmts-left.ensures in
    (p.0, held_is p.0 (fates_are p.0 p.1 l) c.write_held.ensures, (left_is p.0 p.1 l, states_are p.0 p.1 l))
