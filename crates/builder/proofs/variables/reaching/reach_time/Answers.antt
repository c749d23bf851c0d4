use native.Mathlib.Omega.{arith}
use Rattle.builder.proofs.laws.TimeRounds.{deps_stay, reached_none, reached_more, reached_end}
use Rattle.builder.proofs.variables.reaching.reach_time.Goals as goal

pub loop-init : goal.loop-init
loop-init c = reached_none c.args.z c.args.area.now c.requires.1

pub time_round-next-requires : goal.time_round-next-requires
time_round-next-requires c = let a = c.args in
    deps_stay a.z a.area.now c.requires.0 c.loop.counter c.loop.area c.loop.invariant

pub take_marks-requires : goal.take_marks-requires
take_marks-requires c = let a = c.args in
    (deps_stay a.z a.area.now c.requires.0 c.loop.counter c.loop.area c.loop.invariant, omega arith)

pub returns-then-not-take_marks : goal.returns-then-not-take_marks
returns-then-not-take_marks c = let loop = c.loop in
    let a = c.args in
    reached_end a.z a.area.now c.requires.0 loop.counter loop.area loop.invariant c.time_round-next.result c.time_round-next.ensures c.take_marks.new.area
    c.take_marks.ensures.0 (c.take_marks.ensures.1 c.if-not-take_marks.true) (omega arith)

pub loop-preserved : goal.loop-preserved
loop-preserved c = let loop = c.loop in
    let a = c.args in
    reached_more a.z a.area.now c.requires.0 loop.counter loop.area loop.invariant c.time_round-next.result c.time_round-next.ensures c.take_marks.new.area
    c.take_marks.ensures.0
