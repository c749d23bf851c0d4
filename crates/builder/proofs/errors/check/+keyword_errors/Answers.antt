use mathlib.Core.Path.{refl}
use native.Mathlib.Omega.{arith}
use Rattle.definitions.specs.Check.{keyword_errors}
use Rattle.builder.proofs.laws.Checks.{args_end, arg_last, arg_within, args_rest, args_fewer, built_in_more}
use Rattle.area.proofs.Listings.{none_listed, listed_then, room_first, listed_room}
use Rattle.builder.proofs.errors.check.+keyword_errors.Goals as goal

pub returns-then-run-eq0 : goal.returns-then-run-eq0
unfolding keyword_errors
returns-then-run-eq0 t c = rw (args_end c.requires.0.1 c.if-run-eq0.true) (none_listed _)

pub overflow_sub-last : goal.overflow_sub-last
overflow_sub-last t c = let l = arg_last c.requires.0.1 c.if-run-eq0.false in
    omega (arith, l.two)

pub keyword_errors-requires : goal.keyword_errors-requires
keyword_errors-requires t c = let if1 = c.if-run-eq0 in
    let before_last = c.before_last in
    let q = c.requires.0.1 in
    let z = before_last.result in
    let e = before_last.ensures in
    (omega (arith, c.decreases, args_fewer q if1.false z e), ((c.requires.0.0, args_rest q if1.false z e), room_first (built_in_more q if1.false z e _ refl) _ c.requires.1))

pub word-keyword-requires : goal.word-keyword-requires
word-keyword-requires t c = (arg_within c.requires.0.1 c.if-run-eq0.false, omega arith)

pub found_at-found-requires : goal.found_at-found-requires
found_at-found-requires t c = (arg_within c.requires.0.1 c.if-run-eq0.false, omega (arith, c.word-keyword.ensures.1))

pub list-requires : goal.list-requires
list-requires t c = let before_last = c.before_last in
    let keyword-errors = c.keyword_errors in
    let node_word = c.word-keyword in
    let e = built_in_more c.requires.0.1 c.if-run-eq0.false before_last.result before_last.ensures node_word.result node_word.ensures.0 in
    let r = listed_room e c.requires.1 keyword-errors.ensures in
    omega (arith, r)

pub returns : goal.returns
returns t c = let before_last = c.before_last in
    let node_word = c.word-keyword in
    let e = built_in_more c.requires.0.1 c.if-run-eq0.false before_last.result before_last.ensures node_word.result node_word.ensures.0 in
    let l = rw c.found_at-found.ensures at c.list.ensures in
    listed_then e c.keyword_errors.ensures l
