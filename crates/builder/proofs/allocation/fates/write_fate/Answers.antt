use mathlib.Core.Path.{refl, sym}
use Rattle.builder.proofs.laws.FateCases.{neither_held, neither_over, initial_is, replaced_is, held_is}
use Rattle.builder.proofs.allocation.fates.write_fate.Goals as goal

pub returns-in-Some : goal.returns-in-Some
returns-in-Some c =
    let f = neither_held c.args.roles.now c.args.i c.args.queue.now c.in-Neither.is _ _ _ refl c.in-Some.ensures.cases.0 in
    (rw f.0 c.put_fate.ensures, sym f.1)

pub returns-in_default : goal.returns-in_default
returns-in_default c =
    let f = neither_over c.args.roles.now c.args.i c.args.queue.now c.in-Neither.is c.in_default.ensures.cases in
    (rw f.0 c.put_fate-in-Neither.ensures, sym f.1)

pub returns-in-Initial : goal.returns-in-Initial
returns-in-Initial c =
    let f = initial_is c.args.roles.now c.args.i c.args.queue.now _ _ refl c.in-Initial.is in
    (rw f.0 c.put_fate-in-Initial.ensures, sym f.1)

pub returns-then-has_rate : goal.returns-then-has_rate
returns-then-has_rate c =
    let f = replaced_is c.args.roles.now c.args.i c.args.queue.now c.in-Rate.v _ refl c.in-Rate.is _ c.has_rate.ensures c.if-has_rate.true in
    (rw f.0 c.put_fate-then-has_rate.ensures, sym f.1)

pub returns-else-has_rate : goal.returns-else-has_rate
returns-else-has_rate c =
    let f = held_is c.args.roles.now c.args.i c.args.queue.now c.in-Rate.v _ refl c.in-Rate.is _ c.has_rate.ensures c.if-has_rate.false in
    (rw f.0 c.put_fate-else-has_rate.ensures, sym f.1)
