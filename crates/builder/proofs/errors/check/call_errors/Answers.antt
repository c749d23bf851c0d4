-- `builder::check::call_errors` meets its contract: the count against the table, then by the class of the call's name.
use native.Mathlib.Omega.{arith}
use Rattle.builder.proofs.laws.Calls.{call_name, call_small, call_args, call_built_in, call_other}
use Rattle.builder.proofs.laws.Sourced.{against}
use Rattle.area.proofs.Listings.{listed_then, listed_room}
use Rattle.builder.proofs.errors.check.call_errors.Goals as goal

pub bounds-tables-name : goal.bounds-tables-name
bounds-tables-name c = let p = c.requires in
    omega (arith, c.word-name.ensures.0, call_small p.0)

pub found_at-found-requires : goal.found_at-found-requires
found_at-found-requires c = let p = c.requires in
    (p.0.within, omega (arith, c.word-name.ensures.0, call_small p.0))

pub bounds-tables-name-2 : goal.bounds-tables-name-2
bounds-tables-name-2 c = omega (arith, c.word-name.ensures.0, call_name c.requires.0, c.args.at.now.tables.now.names.long)

pub keyword_errors-requires : goal.keyword_errors-requires
keyword_errors-requires c = let p = c.requires in
    let g = against c.args.at.now in
    let node_word = c.word-name in
    let run_of = c.run_of-run in
    let rule-allows = c.rule_allows-allowed in
    let is-built-in = c.is_built_in in
    let e = call_built_in g p.0 node_word.result node_word.ensures.0 rule-allows.result run_of.result rule-allows.ensures run_of.ensures.0 is-built-in.result is-built-in.ensures c.if-is_built_in.true in
    let l = rw c.found_at-found.ensures at c.list.ensures in
    ((_, call_args p.0 run_of.result run_of.ensures.0), listed_room e p.1 l)

pub returns-then-is_built_in : goal.returns-then-is_built_in
returns-then-is_built_in c = let p = c.requires in
    let g = against c.args.at.now in
    let node_word = c.word-name in
    let run_of = c.run_of-run in
    let rule-allows = c.rule_allows-allowed in
    let found_at = c.found_at-found in
    let is-built-in = c.is_built_in in
    let e = call_built_in g p.0 node_word.result node_word.ensures.0 rule-allows.result run_of.result rule-allows.ensures run_of.ensures.0 is-built-in.result is-built-in.ensures c.if-is_built_in.true in
    let l = rw found_at.ensures at c.list.ensures in
    listed_then e l c.keyword_errors.ensures

pub variable_errors-requires : goal.variable_errors-requires
variable_errors-requires c = let p = c.requires in
    let g = against c.args.at.now in
    let node_word = c.word-name in
    let run_of = c.run_of-run in
    let rule-allows = c.rule_allows-allowed in
    let is-built-in = c.is_built_in in
    let e = call_other g p.0 node_word.result node_word.ensures.0 rule-allows.result run_of.result rule-allows.ensures run_of.ensures.0 is-built-in.result is-built-in.ensures c.if-is_built_in.false in
    let l = rw c.found_at-found.ensures at c.list.ensures in
    (p.0, listed_room e p.1 l)

pub returns : goal.returns
returns c = let p = c.requires in
    let g = against c.args.at.now in
    let node_word = c.word-name in
    let run_of = c.run_of-run in
    let rule-allows = c.rule_allows-allowed in
    let found_at = c.found_at-found in
    let is-built-in = c.is_built_in in
    let e = call_other g p.0 node_word.result node_word.ensures.0 rule-allows.result run_of.result rule-allows.ensures run_of.ensures.0 is-built-in.result is-built-in.ensures c.if-is_built_in.false in
    let l = rw found_at.ensures at c.list.ensures in
    listed_then e l c.variable_errors.ensures
