use native.Mathlib.Omega.{arith}
use Rattle.definitions.specs.Check.{dependent_errors}
use Rattle.builder.proofs.laws.Checks.{args_end, arg_last, arg_within, arg_keyword, args_rest, args_fewer, dependents_more, positional_more, named_more}
use Rattle.area.proofs.Listings.{none_listed, listed_then, room_first, listed_room}
use Rattle.builder.proofs.errors.check.+arg_errors.Goals as goal

pub returns-then-run-eq0 : goal.returns-then-run-eq0
unfolding dependent_errors
returns-then-run-eq0 t c = rw (args_end c.requires.1 c.if-run-eq0.true) (none_listed _)

pub overflow_sub-last : goal.overflow_sub-last
overflow_sub-last t c = let l = arg_last c.requires.1 c.if-run-eq0.false in
    omega (arith, l.two)

pub arg_errors-requires : goal.arg_errors-requires
arg_errors-requires t c = let if1 = c.if-run-eq0 in
    let before_last = c.before_last-rest in
    let q = c.requires.1 in
    let z = before_last.result in
    let e = before_last.ensures in
    (omega (arith, c.decreases, args_fewer q if1.false z e), (c.requires.0, args_rest q if1.false z e, room_first (dependents_more q if1.false z e _).1 _ c.requires.2))

pub word-keyword-requires : goal.word-keyword-requires
word-keyword-requires t c = (arg_within c.requires.1 c.if-run-eq0.false, omega arith)

pub has_keyword-named-requires : goal.has_keyword-named-requires
has_keyword-named-requires t c = let before_last = c.before_last-rest in
    (_, args_rest c.requires.1 c.if-run-eq0.false before_last.result before_last.ensures)

pub found_at-found-requires : goal.found_at-found-requires
found_at-found-requires t c = (arg_within c.requires.1 c.if-run-eq0.false, omega arith)

pub list-requires : goal.list-requires
list-requires t c = let if1 = c.if-run-eq0 in
    let before_last = c.before_last-rest in
    let node_word = c.word-keyword in
    let has-keyword = c.has_keyword-named in
    let q = c.requires.1 in
    let e = positional_more q if1.false before_last.result before_last.ensures node_word.result node_word.ensures.0 _ has-keyword.result c.if-keyword-eq0.true has-keyword.ensures in
    let r = listed_room e c.requires.2 c.arg_errors.ensures in
    omega (arith, r)

pub returns-then-keyword-eq0 : goal.returns-then-keyword-eq0
returns-then-keyword-eq0 t c = let before_last = c.before_last-rest in
    let node_word = c.word-keyword in
    let has-keyword = c.has_keyword-named in
    let q = c.requires.1 in
    let e = positional_more q c.if-run-eq0.false before_last.result before_last.ensures node_word.result node_word.ensures.0 _ has-keyword.result c.if-keyword-eq0.true has-keyword.ensures in
    let l = rw c.found_at-found.ensures at c.list.ensures in
    listed_then e c.arg_errors.ensures l

pub is_dep_of-kept-requires : goal.is_dep_of-kept-requires
is_dep_of-kept-requires t c = (c.args.at.now.scoped, c.requires.0, omega (arith, c.if-keyword-eq0.false, c.word-keyword.ensures.0, arg_keyword c.requires.1 c.if-run-eq0.false))

pub found_at-found-requires-2 : goal.found_at-found-requires-2
found_at-found-requires-2 t c = (arg_within c.requires.1 c.if-run-eq0.false, omega (arith, c.word-keyword.ensures.1))

pub list-requires-2 : goal.list-requires-2
list-requires-2 t c = let if1 = c.if-run-eq0 in
    let before_last = c.before_last-rest in
    let node_word = c.word-keyword in
    let is-dep-of = c.is_dep_of-kept in
    let q = c.requires.1 in
    let e = named_more q if1.false before_last.result before_last.ensures node_word.result node_word.ensures.0 _ is-dep-of.result c.if-keyword-eq0.false is-dep-of.ensures in
    let r = listed_room e c.requires.2 c.arg_errors.ensures in
    omega (arith, r)

pub returns : goal.returns
returns t c = let before_last = c.before_last-rest in
    let node_word = c.word-keyword in
    let is-dep-of = c.is_dep_of-kept in
    let q = c.requires.1 in
    let e = named_more q c.if-run-eq0.false before_last.result before_last.ensures node_word.result node_word.ensures.0 _ is-dep-of.result c.if-keyword-eq0.false is-dep-of.ensures in
    let l = rw c.found_at-found-2.ensures at c.list-2.ensures in
    listed_then e c.arg_errors.ensures l
