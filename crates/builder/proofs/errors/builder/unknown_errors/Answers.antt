-- `builder::builder::unknown_errors` meets its contract: the domain's error, then the name's.
use native.Mathlib.Omega.{arith}
use Rattle.builder.proofs.laws.Sourced.{unknown_classed}
use Rattle.area.proofs.Listings.{listed_then, listed_room}
use Rattle.builder.proofs.laws.ModelErrors.{unknown_below, unknown_small, unknown_more}
use Rattle.builder.proofs.errors.builder.unknown_errors.Goals as goal

pub bounds-names-name : goal.bounds-names-name
bounds-names-name c = let name = c.unknown-name in
    omega (arith, unknown_below (unknown_classed c.args.names.now c.args.u c.requires.0) name.result name.ensures.0, c.args.names.now.long)

pub unknown_error-requires : goal.unknown_error-requires
unknown_error-requires c = let p = c.requires in
    let name = c.unknown-name in
    (p.0, omega (arith, unknown_small (unknown_classed c.args.names.now c.args.u c.requires.0) name.result name.ensures.0))

pub list-requires-2 : goal.list-requires-2
list-requires-2 c = let p = c.requires in
    let name = c.unknown-name in
    let e = unknown_more (unknown_classed c.args.names.now c.args.u c.requires.0) name.result name.ensures.0 _ _ c.is_reserved.ensures c.eq.ensures in
    let l = rw c.domain_error.ensures at c.list.ensures in
    let r = listed_room e p.1 l in
    omega (arith, r)

pub returns : goal.returns
returns c = let list = c.list in
    let name = c.unknown-name in
    let e = unknown_more (unknown_classed c.args.names.now c.args.u c.requires.0) name.result name.ensures.0 _ _ c.is_reserved.ensures c.eq.ensures in
    let l = rw c.domain_error.ensures at list.ensures in
    let n = rw c.unknown_error.ensures at c.list-2.ensures in
    listed_then e l n
