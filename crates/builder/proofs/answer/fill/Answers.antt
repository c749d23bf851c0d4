use native.Mathlib.Omega.{arith}
use Rattle.builder.proofs.laws.RootLaid.{flats_needs, vars_needs, model_known, all_laid, model_rooted}
use Rattle.builder.proofs.laws.ShortAnswers.{some_variable, timed}
use Rattle.builder.proofs.answer.fill.Goals as goal

pub lay_flats-requires : goal.lay_flats-requires
lay_flats-requires c = let p = c.requires in
    let few = flats_needs p.1 in
    rw c.calls.ensures (record { model = p.0.model; readable = p.0.readable; few_nodes = few.0; few_stmts = few.1 }, p.1.nodes, p.0.long)

pub lay_vars-sizes-requires : goal.lay_vars-sizes-requires
lay_vars-sizes-requires c = let p = c.requires in
    rw c.names-names.ensures (p.0.model, vars_needs c.args.source.now.file.opened p.0.model p.1 _ p.0.long (rw c.calls.ensures at c.lay_flats.ensures), c.no_marks-numbers.ensures)

pub var-name-requires : goal.var-name-requires
var-name-requires c = let p = c.requires in
    let o = c.args.source.now.file.opened in
    let l = rw c.names-names.ensures at c.lay_vars-sizes.ensures in
    let known = model_known o p.0.model p.1 _ p.0.long (rw c.calls.ensures at c.lay_flats.ensures) l.0 l.1.0 l.1.1 in
    let n = some_variable known (all_laid o p.0.model p.1 _ p.0.long (rw c.calls.ensures at c.lay_flats.ensures) l.0 l.1.0 l.1.1) in
    (n.0, n.1, n.2, omega arith)

pub time_bounds-time-requires : goal.time_bounds-time-requires
time_bounds-time-requires c = rw c.names-names.ensures c.requires.0.model

pub answer_laid-requires : goal.answer_laid-requires
answer_laid-requires c = let p = c.requires in
    let o = c.args.source.now.file.opened in
    let l = rw c.names-names.ensures at c.lay_vars-sizes.ensures in
    let known = model_known o p.0.model p.1 _ p.0.long (rw c.calls.ensures at c.lay_flats.ensures) l.0 l.1.0 l.1.1 in
    let laid = all_laid o p.0.model p.1 _ p.0.long (rw c.calls.ensures at c.lay_flats.ensures) l.0 l.1.0 l.1.1 in
    let time = timed known laid c.var-name.ensures (rw c.names-names.ensures at c.time_bounds-time.ensures) in
    (model_rooted o p.0.model p.1 _ p.0.long (rw c.calls.ensures at c.lay_flats.ensures) l.0 l.1.0 l.1.1 time, laid)

pub returns : goal.returns
returns c = c.answer_laid.ensures
