use mathlib.Core.Path.{refl}
use native.Mathlib.Omega.{arith}
use Rattle.definitions.specs.Check.{args_errors}
use Rattle.builder.specs.Seen.{scope_checked}
use Rattle.builder.proofs.laws.Checks.{args_end, arg_last, arg_child, args_rest, nodes_fewer, args_more_errors}
use Rattle.builder.proofs.laws.Calls.{call_args, call_less, name_small, name_error}
use Rattle.builder.proofs.laws.Exprs.{number_errors, one_in, unary_errors, binary_pos, two_in, binary_errors, is_call, call_errors_lem}
use Rattle.area.proofs.Listings.{none_listed, listed_then, room_first, listed_room}
use Rattle.ast.proofs.ReadKinds.{node_read, expr_read, expr_no_argument}
use Rattle.builder.proofs.errors.check.+check_args_check_expr.Goals as goal

pub check_args-returns-then-run-eq0 : goal.check_args-returns-then-run-eq0
unfolding args_errors
check_args-returns-then-run-eq0 t c = rw (args_end c.requires.0 c.if-run-eq0.true) (none_listed _)

pub check_args-overflow_sub-last : goal.check_args-overflow_sub-last
check_args-overflow_sub-last t c = let l = arg_last c.requires.0 c.if-run-eq0.false in
    omega (arith, l.two)

pub check_args-check_args-requires : goal.check_args-check_args-requires
check_args-check_args-requires t c = let a = c.args in
    let if1 = c.if-run-eq0 in
    let before_last = c.before_last-rest in
    let q = c.requires.0 in
    let e = args_more_errors q if1.false before_last.result before_last.ensures (scope_checked a.at.now) in
    (omega (arith, c.decreases, nodes_fewer q if1.false before_last.result before_last.ensures), (args_rest q if1.false before_last.result before_last.ensures, room_first e _ c.requires.1))

pub check_args-overflow_sub-last-2 : goal.check_args-overflow_sub-last-2
check_args-overflow_sub-last-2 t c = let l = arg_last c.requires.0 c.if-run-eq0.false in
    omega (arith, l.two)

pub check_args-check_expr-requires : goal.check_args-check_expr-requires
check_args-check_expr-requires t c = let a = c.args in
    let if1 = c.if-run-eq0 in
    let before_last = c.before_last-rest in
    let q = c.requires.0 in
    let l = arg_last q if1.false in
    let e = args_more_errors q if1.false before_last.result before_last.ensures (scope_checked a.at.now) in
    (omega (arith, c.decreases, l.le, l.eq), (arg_child q if1.false, listed_room e c.requires.1 c.check_args.ensures))

pub check_args-returns : goal.check_args-returns
check_args-returns t c = let a = c.args in
    let before_last = c.before_last-rest in
    let q = c.requires.0 in
    let e = args_more_errors q c.if-run-eq0.false before_last.result before_last.ensures (scope_checked a.at.now) in
    listed_then e c.check_args.ensures c.check_expr.ensures

pub check_expr-name_error-requires : goal.check_expr-name_error-requires
check_expr-name_error-requires t c = let q = c.requires.0 in
    (q.within, name_small q (node_read c.in-Ok-Name.ensures c.in-Ok-Name.field-0-is))

pub check_expr-returns-in-Ok-Name : goal.check_expr-returns-in-Ok-Name
check_expr-returns-in-Ok-Name t c = let l = rw c.name_error.ensures at c.list.ensures in
    rw (name_error c.args.at.now.scoped c.requires.0 (node_read c.in-Ok-Name.ensures c.in-Ok-Name.field-0-is)) l

pub check_expr-returns-in-Ok-Number : goal.check_expr-returns-in-Ok-Number
check_expr-returns-in-Ok-Number t c = rw (number_errors c.requires.0 (node_read c.in-Ok-Number.ensures c.in-Ok-Number.field-0-is) _) (none_listed _)

pub check_expr-overflow_sub-right : goal.check_expr-overflow_sub-right
check_expr-overflow_sub-right t c = let w = binary_pos c.requires.0 (node_read c.in-Ok-Binary.ensures c.in-Ok-Binary.field-0-is) in
    omega arith

pub check_expr-overflow_sub-left : goal.check_expr-overflow_sub-left
check_expr-overflow_sub-left t c = let node-word2 = c.word in
    let q = c.requires.0 in
    let w = two_in q (node_read c.in-Ok-Binary.ensures c.in-Ok-Binary.field-0-is) node-word2.result node-word2.ensures.0 in
    omega (arith, w.le)

pub check_expr-check_expr-requires : goal.check_expr-check_expr-requires
check_expr-check_expr-requires t c = let a = c.args in
    let node-word2 = c.word in
    let q = c.requires.0 in
    let w = two_in q (node_read c.in-Ok-Binary.ensures c.in-Ok-Binary.field-0-is) node-word2.result node-word2.ensures.0 in
    let e = binary_errors q (node_read c.in-Ok-Binary.ensures c.in-Ok-Binary.field-0-is) node-word2.result node-word2.ensures.0 (scope_checked a.at.now) in
    (omega (arith, c.decreases, w.left_less), (w.left, room_first e _ c.requires.1))

pub check_expr-check_expr-requires-in-Ok-Binary : goal.check_expr-check_expr-requires-in-Ok-Binary
check_expr-check_expr-requires-in-Ok-Binary t c = let a = c.args in
    let node-word2 = c.word in
    let q = c.requires.0 in
    let w = two_in q (node_read c.in-Ok-Binary.ensures c.in-Ok-Binary.field-0-is) node-word2.result node-word2.ensures.0 in
    let e = binary_errors q (node_read c.in-Ok-Binary.ensures c.in-Ok-Binary.field-0-is) node-word2.result node-word2.ensures.0 (scope_checked a.at.now) in
    (omega (arith, c.decreases, w.right_less), (w.right, listed_room e c.requires.1 c.check_expr.ensures))

pub check_expr-returns-in-Ok-Binary : goal.check_expr-returns-in-Ok-Binary
check_expr-returns-in-Ok-Binary t c = let a = c.args in
    let node-word2 = c.word in
    let q = c.requires.0 in
    let e = binary_errors q (node_read c.in-Ok-Binary.ensures c.in-Ok-Binary.field-0-is) node-word2.result node-word2.ensures.0 (scope_checked a.at.now) in
    listed_then e c.check_expr.ensures c.check_expr-in-Ok-Binary.ensures

pub check_expr-overflow_sub-i : goal.check_expr-overflow_sub-i
check_expr-overflow_sub-i t c = let w = one_in c.requires.0 (node_read c.in-Ok-Unary.ensures c.in-Ok-Unary.field-0-is) in
    omega (arith, w.le)

pub check_expr-check_expr-requires-in-Ok-Unary : goal.check_expr-check_expr-requires-in-Ok-Unary
check_expr-check_expr-requires-in-Ok-Unary t c = let q = c.requires.0 in
    let w = one_in q (node_read c.in-Ok-Unary.ensures c.in-Ok-Unary.field-0-is) in
    (omega (arith, c.decreases, w.less), (w.child, rw (unary_errors q (node_read c.in-Ok-Unary.ensures c.in-Ok-Unary.field-0-is) _) at c.requires.1))

pub check_expr-returns-in-Ok-Unary : goal.check_expr-returns-in-Ok-Unary
check_expr-returns-in-Ok-Unary t c = rw (unary_errors c.requires.0 (node_read c.in-Ok-Unary.ensures c.in-Ok-Unary.field-0-is) _) c.check_expr-in-Ok-Unary.ensures

pub check_expr-call_errors-requires : goal.check_expr-call_errors-requires
check_expr-call_errors-requires t c = let a = c.args in
    let q = c.requires.0 in
    let e = call_errors_lem q (node_read c.in-Ok-Call.ensures c.in-Ok-Call.field-0-is) (scope_checked a.at.now) _ refl in
    (is_call q (node_read c.in-Ok-Call.ensures c.in-Ok-Call.field-0-is), room_first e _ c.requires.1)

pub check_expr-run_of-run-requires : goal.check_expr-run_of-run-requires
check_expr-run_of-run-requires t c = (_, is_call c.requires.0 (node_read c.in-Ok-Call.ensures c.in-Ok-Call.field-0-is))

pub check_expr-check_args-requires : goal.check_expr-check_args-requires
check_expr-check_args-requires t c = let a = c.args in
    let run_of = c.run_of-run in
    let q = c.requires.0 in
    let d = is_call q (node_read c.in-Ok-Call.ensures c.in-Ok-Call.field-0-is) in
    let e = call_errors_lem q (node_read c.in-Ok-Call.ensures c.in-Ok-Call.field-0-is) (scope_checked a.at.now) run_of.result run_of.ensures.0 in
    (omega (arith, c.decreases, call_less d run_of.result run_of.ensures.0), (call_args d run_of.result run_of.ensures.0, listed_room e c.requires.1 c.call_errors.ensures))

pub check_expr-returns-in-Ok-Call : goal.check_expr-returns-in-Ok-Call
check_expr-returns-in-Ok-Call t c = let a = c.args in
    let run_of = c.run_of-run in
    let e = call_errors_lem c.requires.0 (node_read c.in-Ok-Call.ensures c.in-Ok-Call.field-0-is) (scope_checked a.at.now) run_of.result run_of.ensures.0 in
    listed_then e c.call_errors.ensures c.check_args.ensures

pub check_expr-unreachable-requires : goal.check_expr-unreachable-requires
check_expr-unreachable-requires t c = expr_no_argument _ _ c.requires.0.expr c.in-Ok-Argument.ensures c.in-Ok-Argument.field-0-is

pub check_expr-unreachable-requires-in-Err : goal.check_expr-unreachable-requires-in-Err
check_expr-unreachable-requires-in-Err t c = expr_read _ _ c.requires.0.expr c.in-Err.ensures
