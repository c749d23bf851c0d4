-- `builder::check::variable_errors` meets its contract: by the entry of the call's name.
use native.Mathlib.Omega.{arith}
use Rattle.builder.proofs.laws.Calls.{call_small, call_args, call_missing, call_found, call_variable}
use Rattle.area.proofs.Listings.{listed_then, listed_room}
use Rattle.builder.proofs.errors.check.variable_errors.Goals as goal

pub bounds-at-name : goal.bounds-at-name
bounds-at-name c = let p = c.requires in
    omega (arith, c.word-name.ensures.0, call_small p.0)

pub found_at-found-requires : goal.found_at-found-requires
found_at-found-requires c = let p = c.requires in
    (p.0.within, omega (arith, c.word-name.ensures.0, call_small p.0))

pub found_at-found-requires-2 : goal.found_at-found-requires-2
found_at-found-requires-2 c = let p = c.requires in
    (p.0.within, omega (arith, c.word-name.ensures.0, call_small p.0))

pub returns-then-entry-eq0 : goal.returns-then-entry-eq0
returns-then-entry-eq0 c = let p = c.requires in
    let g = c.args.at.now.scoped in
    let node_word = c.word-name in
    let if1 = c.if-entry-eq0 in
    let l = rw c.found_at-found.ensures at c.list.ensures in
    rw (call_missing g p.0 node_word.result node_word.ensures.0 if1.true) l

pub arg_errors-requires : goal.arg_errors-requires
arg_errors-requires c = let p = c.requires in
    let g = c.args.at.now.scoped in
    let node_word = c.word-name in
    let run_of = c.run_of-run in
    let if1 = c.if-entry-eq0 in
    let is-count = c.is_count-counted in
    let found-at2 = c.found_at-found-2 in
    let e = call_variable g p.0 node_word.result node_word.ensures.0 if1.false is-count.result run_of.result is-count.ensures run_of.ensures.0 in
    let l = rw found-at2.ensures at c.list-2.ensures in
    (call_found g p.0 node_word.result node_word.ensures.0 if1.false, call_args p.0 run_of.result run_of.ensures.0, listed_room e p.1 l)

pub returns : goal.returns
returns c = let p = c.requires in
    let g = c.args.at.now.scoped in
    let node_word = c.word-name in
    let run_of = c.run_of-run in
    let is-count = c.is_count-counted in
    let e = call_variable g p.0 node_word.result node_word.ensures.0 c.if-entry-eq0.false is-count.result run_of.result is-count.ensures run_of.ensures.0 in
    let l = rw c.found_at-found-2.ensures at c.list-2.ensures in
    listed_then e l c.arg_errors.ensures
