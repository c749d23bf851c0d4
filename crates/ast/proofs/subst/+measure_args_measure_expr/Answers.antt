use mathlib.Core.Path.{◌≡◌}
use native.Mathlib.Omega.{arith}
use Rattle.ast.specs.Views.{nodes_seen}
use Rattle.ast.specs.Nodes.{kind_at}
use Rattle.ast.proofs.Fitting.{node_ok, two_below, last_arg}
use Rattle.ast.proofs.Capped.{at_most_le, at_most_zero, at_most_none, at_most_one, at_most_below, at_most_two}
use Rattle.ast.proofs.Seen.{size_one, size_number, size_binary, size_unary, size_call, sizes_none, sizes_more, name_below, up_ok, up_size}
use Rattle.ast.proofs.ReadKinds.{node_read, expr_read, expr_no_argument}
use Rattle.ast.proofs.subst.+measure_args_measure_expr.Goals as goal

pub measure_args-returns-then-count-eq0 : goal.measure_args-returns-then-count-eq0
measure_args-returns-then-count-eq0 t c = let a = c.args in
    let list = c.requires in
    at_most_none _ _ (sizes_none _ _ _ list.ready.pass a.rows.now a.level _ _ _ list.within list.args c.if-count-eq0.true)

pub measure_args-returns-then-most-eq0 : goal.measure_args-returns-then-most-eq0
measure_args-returns-then-most-eq0 t c = at_most_zero _ _ c.if-most-eq0.true

pub measure_args-overflow_sub-last : goal.measure_args-overflow_sub-last
measure_args-overflow_sub-last t c = let list = c.requires in
    let a = last_arg _ _ _ list.ready.pass _ _ _ list.within list.args c.if-count-eq0.false in
    omega (arith, a.two)

pub measure_args-word-size-requires : goal.measure_args-word-size-requires
measure_args-word-size-requires t c = let list = c.requires in
    let a = last_arg _ _ _ list.ready.pass _ _ _ list.within list.args c.if-count-eq0.false in
    (omega (arith, a.two, list.within), omega arith)

pub measure_args-overflow_sub-end : goal.measure_args-overflow_sub-end
measure_args-overflow_sub-end t c = let list = c.requires in
    let a = last_arg _ _ _ list.ready.pass _ _ _ list.within list.args c.if-count-eq0.false in
    omega (arith, a.within, c.word-size.ensures.0)

pub measure_args-overflow_sub-count : goal.measure_args-overflow_sub-count
measure_args-overflow_sub-count t c = omega (arith, c.if-count-eq0.false)

pub measure_args-overflow_sub-total : goal.measure_args-overflow_sub-total
measure_args-overflow_sub-total t c = let list = c.requires in
    let a = last_arg _ _ _ list.ready.pass _ _ _ list.within list.args c.if-count-eq0.false in
    omega (arith, a.le, c.word-size.ensures.0)

pub measure_args-overflow_sub-most : goal.measure_args-overflow_sub-most
measure_args-overflow_sub-most t c = omega (arith, c.if-most-eq0.false)

pub measure_args-measure_args-a-requires : goal.measure_args-measure_args-a-requires
measure_args-measure_args-a-requires t c = let args = c.args in
    let list = c.requires in
    let a = last_arg _ _ _ list.ready.pass _ _ _ list.within list.args c.if-count-eq0.false in
    rw c.word-size.ensures.0 (omega (arith, a.le, a.eq, c.decreases), record { ready = list.ready; deep = list.deep; long = list.long; within = omega (arith, list.within); args = a.rest })

pub measure_args-overflow_sub-last-2 : goal.measure_args-overflow_sub-last-2
measure_args-overflow_sub-last-2 t c = let if1 = c.if-count-eq0 in
    let list = c.requires in
    let a = last_arg _ _ _ list.ready.pass _ _ _ list.within list.args if1.false in
    omega (arith, a.two)

pub measure_args-overflow_sub-most-2 : goal.measure_args-overflow_sub-most-2
measure_args-overflow_sub-most-2 t c = omega (arith, c.if-most-eq0.false)

pub measure_args-overflow_sub-most-3 : goal.measure_args-overflow_sub-most-3
measure_args-overflow_sub-most-3 t c = at_most_le _ _ _ c.measure_args-a.ensures

pub measure_args-measure_expr-b-requires : goal.measure_args-measure_expr-b-requires
measure_args-measure_expr-b-requires t c = let if1 = c.if-count-eq0 in
    let list = c.requires in
    let a = last_arg _ _ _ list.ready.pass _ _ _ list.within list.args if1.false in
    (omega (arith, a.le, a.eq, c.decreases), record { ready = list.ready; deep = list.deep; long = list.long; within = omega (arith, a.two, list.within); expr = a.child })

pub measure_args-overflow_add-result : goal.measure_args-overflow_add-result
measure_args-overflow_add-result t c = let h = at_most_le _ _ _ c.measure_args-a.ensures in
    omega (arith, h, c.if-most-eq0.false)

pub measure_args-overflow_add-result-2 : goal.measure_args-overflow_add-result-2
measure_args-overflow_add-result-2 t c = let h = at_most_le _ _ _ c.measure_args-a.ensures in
    let g = at_most_le _ _ _ c.measure_expr-b.ensures in
    omega (arith, h, g, c.if-most-eq0.false)

pub measure_args-returns : goal.measure_args-returns
measure_args-returns t c = let args = c.args in
    let if1 = c.if-count-eq0 in
    let list = c.requires in
    let z = sizes_more _ _ _ list.ready.pass args.rows.now args.level _ _ _ list.within list.args if1.false in
    let r = rw c.word-size.ensures.0 at c.measure_args-a.ensures in
    at_most_two _ _ _ _ _ _ c.if-most-eq0.false z r c.measure_expr-b.ensures

pub measure_expr-returns-then-most-eq0 : goal.measure_expr-returns-then-most-eq0
measure_expr-returns-then-most-eq0 t c = at_most_zero _ _ c.if-most-eq0.true

pub measure_expr-returns-in-Ok-Name : goal.measure_expr-returns-in-Ok-Name
measure_expr-returns-in-Ok-Name t c = let a = c.args in
    let tree = c.requires in
    let e : kind_at (nodes_seen a.ns.now) a.i ≡ 1 = node_read c.in-Ok-Name.ensures c.in-Ok-Name.field-0-is in
    at_most_one _ _ c.if-most-eq0.false (size_one _ _ _ tree.ready.pass a.rows.now a.level _ tree.within tree.expr e c.if-level-eq0.true)

pub measure_expr-word-requires : goal.measure_expr-word-requires
measure_expr-word-requires t c = let tree = c.requires in
    (tree.within, omega arith)

pub measure_expr-upward-next-requires : goal.measure_expr-upward-next-requires
measure_expr-upward-next-requires t c = let a = c.args in
    let tree = c.requires in
    let e : kind_at (nodes_seen a.ns.now) a.i ≡ 1 = node_read c.in-Ok-Name.ensures c.in-Ok-Name.field-0-is in
    (omega (arith, c.if-level-eq0.false), tree.deep, tree.long, rw c.word.ensures.0 (name_below _ _ _ tree.ready.pass a.rows.now a.level _ tree.within tree.expr e tree.ready.named))

pub measure_expr-overflow_sub-level : goal.measure_expr-overflow_sub-level
measure_expr-overflow_sub-level t c = omega (arith, c.if-level-eq0.false)

pub measure_expr-measure_expr-requires : goal.measure_expr-measure_expr-requires
measure_expr-measure_expr-requires t c = let a = c.args in
    let tree = c.requires in
    let e : kind_at (nodes_seen a.ns.now) a.i ≡ 1 = node_read c.in-Ok-Name.ensures c.in-Ok-Name.field-0-is in
    let u = up_ok _ _ _ tree.ready.pass a.rows.now _ tree.within tree.expr e a.level _ _ (omega (arith, c.if-level-eq0.false)) tree.ready.named c.word.ensures.0 c.upward-next.ensures tree.ready.fit in
    let o = node_ok _ _ _ tree.ready.pass _ u.0 in
    (omega (arith, o.within, u.0, tree.ready.few, c.decreases, c.if-level-eq0.false), record { ready = tree.ready; deep = omega (arith, tree.deep); long = omega (arith, tree.long); within = u.0; expr = u.1 })

pub measure_expr-returns-in-Ok-Name-2 : goal.measure_expr-returns-in-Ok-Name-2
measure_expr-returns-in-Ok-Name-2 t c = let a = c.args in
    let tree = c.requires in
    let e : kind_at (nodes_seen a.ns.now) a.i ≡ 1 = node_read c.in-Ok-Name.ensures c.in-Ok-Name.field-0-is in
    let z = up_size _ _ _ tree.ready.pass a.rows.now _ tree.within tree.expr e a.level _ _ (omega (arith, c.if-level-eq0.false)) tree.ready.named c.word.ensures.0 c.upward-next.ensures in
    rw z c.measure_expr.ensures

pub measure_expr-returns-in-Ok-Number : goal.measure_expr-returns-in-Ok-Number
measure_expr-returns-in-Ok-Number t c = let a = c.args in
    let tree = c.requires in
    let e : kind_at (nodes_seen a.ns.now) a.i ≡ 2 = node_read c.in-Ok-Number.ensures c.in-Ok-Number.field-0-is in
    at_most_one _ _ c.if-most-eq0.false (size_number _ _ _ tree.ready.pass a.rows.now a.level _ tree.within tree.expr e)

pub measure_expr-overflow_sub-left : goal.measure_expr-overflow_sub-left
measure_expr-overflow_sub-left t c = let args = c.args in
    let tree = c.requires in
    let e : kind_at (nodes_seen args.ns.now) args.i ≡ 3 = node_read c.in-Ok-Binary.ensures c.in-Ok-Binary.field-0-is in
    let a = two_below _ _ _ tree.ready.pass _ tree.within e in
    omega (arith, a.le)

pub measure_expr-overflow_sub-i : goal.measure_expr-overflow_sub-i
measure_expr-overflow_sub-i t c = let args = c.args in
    let tree = c.requires in
    let e : kind_at (nodes_seen args.ns.now) args.i ≡ 3 = node_read c.in-Ok-Binary.ensures c.in-Ok-Binary.field-0-is in
    let a = two_below _ _ _ tree.ready.pass _ tree.within e in
    omega (arith, a.le)

pub measure_expr-word-requires-in-Ok-Binary : goal.measure_expr-word-requires-in-Ok-Binary
measure_expr-word-requires-in-Ok-Binary t c = let args = c.args in
    let tree = c.requires in
    let e : kind_at (nodes_seen args.ns.now) args.i ≡ 3 = node_read c.in-Ok-Binary.ensures c.in-Ok-Binary.field-0-is in
    let a = two_below _ _ _ tree.ready.pass _ tree.within e in
    (omega (arith, a.le, tree.within), omega arith)

pub measure_expr-overflow_sub-left-in-Ok-Binary : goal.measure_expr-overflow_sub-left-in-Ok-Binary
measure_expr-overflow_sub-left-in-Ok-Binary t c = let args = c.args in
    let tree = c.requires in
    let e : kind_at (nodes_seen args.ns.now) args.i ≡ 3 = node_read c.in-Ok-Binary.ensures c.in-Ok-Binary.field-0-is in
    let a = two_below _ _ _ tree.ready.pass _ tree.within e in
    omega (arith, a.le, c.word-in-Ok-Binary.ensures.0)

pub measure_expr-overflow_sub-most : goal.measure_expr-overflow_sub-most
measure_expr-overflow_sub-most t c = omega (arith, c.if-most-eq0.false)

pub measure_expr-measure_expr-a-requires : goal.measure_expr-measure_expr-a-requires
measure_expr-measure_expr-a-requires t c = let args = c.args in
    let tree = c.requires in
    let e : kind_at (nodes_seen args.ns.now) args.i ≡ 3 = node_read c.in-Ok-Binary.ensures c.in-Ok-Binary.field-0-is in
    let a = two_below _ _ _ tree.ready.pass _ tree.within e in
    rw c.word-in-Ok-Binary.ensures.0 (omega (arith, a.eq, a.pos₂, c.decreases), record { ready = tree.ready; deep = tree.deep; long = tree.long; within = omega (arith, tree.within); expr = a.left })

pub measure_expr-overflow_sub-i-in-Ok-Binary : goal.measure_expr-overflow_sub-i-in-Ok-Binary
measure_expr-overflow_sub-i-in-Ok-Binary t c = let args = c.args in
    let tree = c.requires in
    let e : kind_at (nodes_seen args.ns.now) args.i ≡ 3 = node_read c.in-Ok-Binary.ensures c.in-Ok-Binary.field-0-is in
    let a = two_below _ _ _ tree.ready.pass _ tree.within e in
    omega (arith, a.le)

pub measure_expr-overflow_sub-most-in-Ok-Binary : goal.measure_expr-overflow_sub-most-in-Ok-Binary
measure_expr-overflow_sub-most-in-Ok-Binary t c = omega (arith, c.if-most-eq0.false)

pub measure_expr-overflow_sub-most-in-Ok-Binary-2 : goal.measure_expr-overflow_sub-most-in-Ok-Binary-2
measure_expr-overflow_sub-most-in-Ok-Binary-2 t c = at_most_le _ _ _ c.measure_expr-a.ensures

pub measure_expr-measure_expr-b-requires : goal.measure_expr-measure_expr-b-requires
measure_expr-measure_expr-b-requires t c = let args = c.args in
    let tree = c.requires in
    let e : kind_at (nodes_seen args.ns.now) args.i ≡ 3 = node_read c.in-Ok-Binary.ensures c.in-Ok-Binary.field-0-is in
    let a = two_below _ _ _ tree.ready.pass _ tree.within e in
    (omega (arith, a.eq, a.pos₁, c.decreases), record { ready = tree.ready; deep = tree.deep; long = tree.long; within = omega (arith, tree.within); expr = a.right })

pub measure_expr-overflow_add-result : goal.measure_expr-overflow_add-result
measure_expr-overflow_add-result t c = let h = at_most_le _ _ _ c.measure_expr-a.ensures in
    omega (arith, h, c.if-most-eq0.false)

pub measure_expr-overflow_add-result-in-Ok-Binary : goal.measure_expr-overflow_add-result-in-Ok-Binary
measure_expr-overflow_add-result-in-Ok-Binary t c = let h = at_most_le _ _ _ c.measure_expr-a.ensures in
    let g = at_most_le _ _ _ c.measure_expr-b.ensures in
    omega (arith, h, g, c.if-most-eq0.false)

pub measure_expr-returns-in-Ok-Binary : goal.measure_expr-returns-in-Ok-Binary
measure_expr-returns-in-Ok-Binary t c = let args = c.args in
    let tree = c.requires in
    let e : kind_at (nodes_seen args.ns.now) args.i ≡ 3 = node_read c.in-Ok-Binary.ensures c.in-Ok-Binary.field-0-is in
    let z = size_binary _ _ _ tree.ready.pass args.rows.now args.level _ tree.within tree.expr e in
    let r = rw c.word-in-Ok-Binary.ensures.0 at c.measure_expr-a.ensures in
    at_most_two _ _ _ _ _ _ c.if-most-eq0.false z r c.measure_expr-b.ensures

pub measure_expr-overflow_sub-i-in-Ok-Unary : goal.measure_expr-overflow_sub-i-in-Ok-Unary
measure_expr-overflow_sub-i-in-Ok-Unary t c = let args = c.args in
    let tree = c.requires in
    let e : kind_at (nodes_seen args.ns.now) args.i ≡ 4 = node_read c.in-Ok-Unary.ensures c.in-Ok-Unary.field-0-is in
    let a = (node_ok _ _ _ tree.ready.pass _ tree.within).unary e in
    omega (arith, a.0)

pub measure_expr-overflow_sub-most-in-Ok-Unary : goal.measure_expr-overflow_sub-most-in-Ok-Unary
measure_expr-overflow_sub-most-in-Ok-Unary t c = omega (arith, c.if-most-eq0.false)

pub measure_expr-measure_expr-requires-in-Ok-Unary : goal.measure_expr-measure_expr-requires-in-Ok-Unary
measure_expr-measure_expr-requires-in-Ok-Unary t c = let args = c.args in
    let tree = c.requires in
    let e : kind_at (nodes_seen args.ns.now) args.i ≡ 4 = node_read c.in-Ok-Unary.ensures c.in-Ok-Unary.field-0-is in
    let a = (node_ok _ _ _ tree.ready.pass _ tree.within).unary e in
    (omega (arith, a.1, c.decreases), record { ready = tree.ready; deep = tree.deep; long = tree.long; within = omega (arith, tree.within); expr = a.2 })

pub measure_expr-overflow_add-result-in-Ok-Unary : goal.measure_expr-overflow_add-result-in-Ok-Unary
measure_expr-overflow_add-result-in-Ok-Unary t c = let h = at_most_le _ _ _ c.measure_expr-in-Ok-Unary.ensures in
    omega (arith, h, c.if-most-eq0.false)

pub measure_expr-returns-in-Ok-Unary : goal.measure_expr-returns-in-Ok-Unary
measure_expr-returns-in-Ok-Unary t c = let args = c.args in
    let tree = c.requires in
    let e : kind_at (nodes_seen args.ns.now) args.i ≡ 4 = node_read c.in-Ok-Unary.ensures c.in-Ok-Unary.field-0-is in
    let z = size_unary _ _ _ tree.ready.pass args.rows.now args.level _ tree.within tree.expr e in
    at_most_below _ _ _ _ c.if-most-eq0.false z c.measure_expr-in-Ok-Unary.ensures

pub measure_expr-word-count-requires : goal.measure_expr-word-count-requires
measure_expr-word-count-requires t c = let tree = c.requires in
    (tree.within, omega arith)

pub measure_expr-word-total-requires : goal.measure_expr-word-total-requires
measure_expr-word-total-requires t c = let tree = c.requires in
    (tree.within, omega arith)

pub measure_expr-overflow_sub-total : goal.measure_expr-overflow_sub-total
measure_expr-overflow_sub-total t c = let tree = c.requires in
    let o = node_ok _ _ _ tree.ready.pass _ tree.within in
    omega (arith, o.pos, c.word-total.ensures.0)

pub measure_expr-overflow_sub-most-in-Ok-Call : goal.measure_expr-overflow_sub-most-in-Ok-Call
measure_expr-overflow_sub-most-in-Ok-Call t c = omega (arith, c.if-most-eq0.false)

pub measure_expr-measure_args-requires : goal.measure_expr-measure_args-requires
measure_expr-measure_args-requires t c = let a = c.args in
    let tree = c.requires in
    let e : kind_at (nodes_seen a.ns.now) a.i ≡ 5 = node_read c.in-Ok-Call.ensures c.in-Ok-Call.field-0-is in
    let o = node_ok _ _ _ tree.ready.pass _ tree.within in
    rw (c.word-count.ensures.0, c.word-total.ensures.0) (omega (arith, o.pos, c.decreases), record { ready = tree.ready; deep = tree.deep; long = tree.long; within = omega (arith, tree.within); args = o.call e })

pub measure_expr-overflow_add-result-in-Ok-Call : goal.measure_expr-overflow_add-result-in-Ok-Call
measure_expr-overflow_add-result-in-Ok-Call t c = let h = at_most_le _ _ _ c.measure_args.ensures in
    omega (arith, h, c.if-most-eq0.false)

pub measure_expr-returns-in-Ok-Call : goal.measure_expr-returns-in-Ok-Call
measure_expr-returns-in-Ok-Call t c = let a = c.args in
    let tree = c.requires in
    let e : kind_at (nodes_seen a.ns.now) a.i ≡ 5 = node_read c.in-Ok-Call.ensures c.in-Ok-Call.field-0-is in
    let z = size_call _ _ _ tree.ready.pass a.rows.now a.level _ tree.within tree.expr e in
    let r = rw (c.word-count.ensures.0, c.word-total.ensures.0) at c.measure_args.ensures in
    at_most_below _ _ _ _ c.if-most-eq0.false z r

pub measure_expr-unreachable-requires : goal.measure_expr-unreachable-requires
measure_expr-unreachable-requires t c = expr_no_argument _ _ c.requires.expr c.in-Ok-Argument.ensures c.in-Ok-Argument.field-0-is

pub measure_expr-unreachable-requires-in-Err : goal.measure_expr-unreachable-requires-in-Err
measure_expr-unreachable-requires-in-Err t c = expr_read _ _ c.requires.expr c.in-Err.ensures
