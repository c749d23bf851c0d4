use Rattle.builder.proofs.laws.ErrorParts.{roles_room_lent, count_room_lent, starting_room_lent, all_listed_lent}
use Rattle.builder.proofs.errors.all.list_all.Goals as goal

pub roles_errors-requires : goal.roles_errors-requires
roles_errors-requires c = let p = c.requires in
    (p.0.flattened, p.0.numbered, roles_room_lent p.0 p.1 c.models_errors.ensures _)

pub list-requires : goal.list-requires
list-requires c = let p = c.requires in
    count_room_lent p.0 p.1 c.models_errors.ensures _ c.roles_errors.ensures

pub starting_errors-requires : goal.starting_errors-requires
starting_errors-requires c = let p = c.requires in
    let few = starting_room_lent p.0 p.1 c.models_errors.ensures _ c.roles_errors.ensures _ _ _ c.count_error.ensures c.list.ensures in
    record { opened = c.args.source.now.file.opened; model = p.0.model; righted = p.0.righted; few = few }

pub returns : goal.returns
returns c = let p = c.requires in
    all_listed_lent p.0 p.1 c.models_errors.ensures _ c.roles_errors.ensures _ _ _ c.count_error.ensures c.list.ensures c.starting_errors.ensures
