use mathlib.Core.Path.{refl}
use native.Mathlib.Omega.{arith}
use Rattle.definitions.specs.Flatten.{order_errors}
use Rattle.builder.proofs.laws.Checks.{args_end, arg_last, arg_within, args_rest, args_fewer}
use Rattle.area.proofs.Listings.{none_listed, listed_then, room_first, listed_room}
use Rattle.builder.proofs.laws.ModelErrors.{order_more}
use Rattle.builder.proofs.errors.builder.+order_errors.Goals as goal

pub returns-then-run-eq0 : goal.returns-then-run-eq0
unfolding order_errors
returns-then-run-eq0 t c = rw (args_end c.requires.0.1 c.if-run-eq0.true) (none_listed _)

pub overflow_sub-last : goal.overflow_sub-last
overflow_sub-last t c = let l = arg_last c.requires.0.1 c.if-run-eq0.false in
    omega (arith, l.two)

pub order_errors-requires : goal.order_errors-requires
order_errors-requires t c = let if1 = c.if-run-eq0 in
    let before_last = c.before_last-rest in
    let q = c.requires.0.1 in
    let z = before_last.result in
    let e = before_last.ensures in
    (omega (arith, c.decreases, args_fewer q if1.false z e), ((c.requires.0.0, args_rest q if1.false z e), room_first (order_more q if1.false z e _ refl _ refl) _ c.requires.1))

pub word-keyword-requires : goal.word-keyword-requires
word-keyword-requires t c = (arg_within c.requires.0.1 c.if-run-eq0.false, omega arith)

pub has_keyword-named-requires : goal.has_keyword-named-requires
has_keyword-named-requires t c = let before_last = c.before_last-rest in
    (c.requires.0.0, args_rest c.requires.0.1 c.if-run-eq0.false before_last.result before_last.ensures)

pub found_at-found-requires : goal.found_at-found-requires
found_at-found-requires t c = (arg_within c.requires.0.1 c.if-run-eq0.false, omega arith)

pub list-requires : goal.list-requires
list-requires t c = let before_last = c.before_last-rest in
    let node_word = c.word-keyword in
    let has-keyword = c.has_keyword-named in
    let e = order_more c.requires.0.1 c.if-run-eq0.false before_last.result before_last.ensures node_word.result node_word.ensures.0 has-keyword.result has-keyword.ensures in
    let r = listed_room e c.requires.1 c.order_errors.ensures in
    omega (arith, r)

pub returns : goal.returns
returns t c = let before_last = c.before_last-rest in
    let node_word = c.word-keyword in
    let has-keyword = c.has_keyword-named in
    let e = order_more c.requires.0.1 c.if-run-eq0.false before_last.result before_last.ensures node_word.result node_word.ensures.0 has-keyword.result has-keyword.ensures in
    let l = rw c.found_at-found.ensures at c.list.ensures in
    listed_then e c.order_errors.ensures l
