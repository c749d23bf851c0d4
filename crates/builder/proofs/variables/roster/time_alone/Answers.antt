use native.Mathlib.Omega.{arith}
use borrow.Author.Rules.{rules}
use borrow.Author.Tests.{tests}
use Rattle.builder.proofs.laws.Rosters.{vars_room, time_put, none_put}
use Rattle.builder.proofs.laws.Ranges.{word_of_place}
use Rattle.builder.proofs.variables.roster.time_alone.Goals as goal

pub put_var-requires : goal.put_var-requires
put_var-requires c = let a = c.args in
    let p = c.requires in
    (p.1.small, vars_room a.z a.area.now p.1, omega arith, omega arith)

pub returns-in-Some : goal.returns-in-Some
returns-in-Some c = let a = c.args in
    let p = c.requires in
    time_put a.z a.area.now _ p.1 a.time a.numbers.now p.3 p.2 _ (word_of_place a.time _ _ c.map_or.ensures (λ k e. search (rules, tests))) c.put_var.ensures c.in-Some.n c.in-Some.is (rw c.in-Some.is at p.0)

pub returns-in_default : goal.returns-in_default
returns-in_default c = let a = c.args in
    let p = c.requires in
    none_put a.z a.area.now _ p.1 a.time a.numbers.now p.3 p.2 _ (word_of_place a.time _ _ c.map_or.ensures (λ k e. search (rules, tests))) c.put_var.ensures c.in_default.is
