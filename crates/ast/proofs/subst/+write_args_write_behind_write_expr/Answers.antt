use mathlib.Core.Path.{◌≡◌, ap, ◌∙◌}
use Prim.Native.Nat.{◌*◌, ◌-◌}
use native.Mathlib.Omega.{arith}
use lib.ListN.{length, take, drop, length-take, length-drop}
use borrow.Rule.Slice.PartMut.{same_len_mid}
use Rattle.ast.specs.Views.{nodes_seen}
use Rattle.ast.specs.Nodes.{kind_at}
use Rattle.ast.specs.Bytes.{front}
use Rattle.ast.specs.Encode.{nodes, encode}
use Rattle.ast.proofs.Fitting.{node_ok, two_below, last_arg}
use Rattle.ast.proofs.Fronts.{lent_put}
use Rattle.ast.proofs.Seen.{size_one, size_number, size_binary, size_unary, size_call, sizes_more, name_below, read_own, up_ok, up_size, wrote_up}
use Rattle.ast.proofs.Written.{wrote_name, wrote_number, wrote_binary, wrote_unary, wrote_call, wrote_none, wrote_more}
use Rattle.ast.proofs.ReadKinds.{node_read, expr_read, expr_no_argument}
use Rattle.ast.proofs.subst.+write_args_write_behind_write_expr.Goals as goal

pub write_args-returns-then-count-eq0 : goal.write_args-returns-then-count-eq0
write_args-returns-then-count-eq0 t c = let a = c.args in
    let list = c.requires.0 in
    wrote_none _ _ _ list.ready.pass a.rows.now a.level a.out.now 0 0 0 _ _ _ list.within list.args c.if-count-eq0.true

pub write_args-overflow_sub-last : goal.write_args-overflow_sub-last
write_args-overflow_sub-last t c = let list = c.requires.0 in
    let a = last_arg _ _ _ list.ready.pass _ _ _ list.within list.args c.if-count-eq0.false in
    omega (arith, a.two)

pub write_args-word-size-requires : goal.write_args-word-size-requires
write_args-word-size-requires t c = let list = c.requires.0 in
    let a = last_arg _ _ _ list.ready.pass _ _ _ list.within list.args c.if-count-eq0.false in
    (omega (arith, a.two, list.within), omega arith)

pub write_args-overflow_sub-end : goal.write_args-overflow_sub-end
write_args-overflow_sub-end t c = let list = c.requires.0 in
    let a = last_arg _ _ _ list.ready.pass _ _ _ list.within list.args c.if-count-eq0.false in
    omega (arith, a.within, c.word-size.ensures.0)

pub write_args-overflow_sub-count : goal.write_args-overflow_sub-count
write_args-overflow_sub-count t c = omega (arith, c.if-count-eq0.false)

pub write_args-overflow_sub-total : goal.write_args-overflow_sub-total
write_args-overflow_sub-total t c = let list = c.requires.0 in
    let a = last_arg _ _ _ list.ready.pass _ _ _ list.within list.args c.if-count-eq0.false in
    omega (arith, a.le, c.word-size.ensures.0)

pub write_args-write_args-a-requires : goal.write_args-write_args-a-requires
write_args-write_args-a-requires t c = let args = c.args in
    let list = c.requires.0 in
    let room = c.requires.1 in
    let a = last_arg _ _ _ list.ready.pass _ _ _ list.within list.args c.if-count-eq0.false in
    let z = sizes_more _ _ _ list.ready.pass args.rows.now args.level _ _ _ list.within list.args c.if-count-eq0.false in
    rw c.word-size.ensures.0 (omega (arith, a.le, a.eq, c.decreases), (record { ready = list.ready; deep = list.deep; long = list.long; within = omega (arith, list.within); args = a.rest }, record { few = omega (arith, z, room.few); held = omega (arith, z, room.held) }))

pub write_args-overflow_sub-last-2 : goal.write_args-overflow_sub-last-2
write_args-overflow_sub-last-2 t c = let if1 = c.if-count-eq0 in
    let list = c.requires.0 in
    let a = last_arg _ _ _ list.ready.pass _ _ _ list.within list.args if1.false in
    omega (arith, a.two)

pub write_args-write_behind-b-requires : goal.write_args-write_behind-b-requires
write_args-write_behind-b-requires t c = let args = c.args in
    let if1 = c.if-count-eq0 in
    let list = c.requires.0 in
    let room = c.requires.1 in
    let a = last_arg _ _ _ list.ready.pass _ _ _ list.within list.args if1.false in
    let z = sizes_more _ _ _ list.ready.pass args.rows.now args.level _ _ _ list.within list.args if1.false in
    let r = rw c.word-size.ensures.0 at c.write_args-a.ensures.0 in
    (omega (arith, a.le, a.eq, c.decreases), (record { ready = list.ready; deep = list.deep; long = list.long; within = omega (arith, a.two, list.within); expr = a.child }, record { few = omega (arith, z, r, room.few); held = omega (arith, z, r, room.held) }))

pub write_args-field-from-requires : goal.write_args-field-from-requires
write_args-field-from-requires t c = let if1 = c.if-count-eq0 in
    let list = c.requires.0 in
    let a = last_arg _ _ _ list.ready.pass _ _ _ list.within list.args if1.false in
    (omega (arith, a.two, list.within), omega arith)

pub write_args-field-to-requires : goal.write_args-field-to-requires
write_args-field-to-requires t c = let if1 = c.if-count-eq0 in
    let list = c.requires.0 in
    let a = last_arg _ _ _ list.ready.pass _ _ _ list.within list.args if1.false in
    (omega (arith, a.two, list.within), omega arith)

pub write_args-overflow_add-b : goal.write_args-overflow_add-b
write_args-overflow_add-b t c = let args = c.args in
    let if1 = c.if-count-eq0 in
    let list = c.requires.0 in
    let room = c.requires.1 in
    let z = sizes_more _ _ _ list.ready.pass args.rows.now args.level _ _ _ list.within list.args if1.false in
    let r = rw c.word-size.ensures.0 at c.write_args-a.ensures.0 in
    omega (arith, z, r, room.few, c.write_behind-b.ensures.0)

pub write_args-overflow_sub-b : goal.write_args-overflow_sub-b
write_args-overflow_sub-b t c = omega (arith, c.write_behind-b.ensures.0)

pub write_args-copy_behind-requires : goal.write_args-copy_behind-requires
write_args-copy_behind-requires t c = let args = c.args in
    let if1 = c.if-count-eq0 in
    let list = c.requires.0 in
    let room = c.requires.1 in
    let a = last_arg _ _ _ list.ready.pass _ _ _ list.within list.args if1.false in
    let z = sizes_more _ _ _ list.ready.pass args.rows.now args.level _ _ _ list.within list.args if1.false in
    let r = rw c.word-size.ensures.0 at c.write_args-a.ensures.0 in
    let same = c.write_behind-b.auto.out ∙ c.write_args-a.auto.out in
    (omega (arith, a.two, list.within), record { few = omega (arith, z, r, room.few, c.write_behind-b.ensures.0); held = omega (arith, z, r, room.held, c.write_behind-b.ensures.0, same) }, omega (arith, z, r, room.few, c.write_behind-b.ensures.0))

pub write_args-shape_of-out : goal.write_args-shape_of-out
write_args-shape_of-out t c = omega arith

pub write_args-returns : goal.write_args-returns
write_args-returns t c = let args = c.args in
    let if1 = c.if-count-eq0 in
    let list = c.requires.0 in
    wrote_more _ _ _ list.ready.pass args.rows.now args.level args.out.now _ _ _ _ _ _ list.within list.args _ _ _ _ _ _ if1.false c.word-size.ensures.0 c.field-from.ensures c.field-to.ensures c.write_args-a.ensures c.write_behind-b.ensures c.copy_behind.ensures

pub write_behind-field-from-requires : goal.write_behind-field-from-requires
write_behind-field-from-requires t c = let tree = c.requires.0 in
    (tree.within, omega arith)

pub write_behind-field-to-requires : goal.write_behind-field-to-requires
write_behind-field-to-requires t c = let tree = c.requires.0 in
    (tree.within, omega arith)

pub write_behind-overflow_mul-start : goal.write_behind-overflow_mul-start
write_behind-overflow_mul-start t c = omega arith

pub write_behind-slice_bounds-write_expr-count : goal.write_behind-slice_bounds-write_expr-count
write_behind-slice_bounds-write_expr-count t c = omega arith

pub write_behind-slice_bounds-write_expr-start : goal.write_behind-slice_bounds-write_expr-start
write_behind-slice_bounds-write_expr-start t c = omega arith

pub write_behind-slice_bounds-write_expr-end : goal.write_behind-slice_bounds-write_expr-end
write_behind-slice_bounds-write_expr-end t c = omega arith

pub write_behind-write_expr-requires : goal.write_behind-write_expr-requires
write_behind-write_expr-requires t c = let tree = c.requires.0 in
    let room = c.requires.1 in
    (omega (arith, c.decreases), (tree, record { few = omega (arith, room.few); held = simp (length-take, length-drop) (omega (arith, room.held)) }))

pub write_behind-overflow_add-result : goal.write_behind-overflow_add-result
write_behind-overflow_add-result t c = let room = c.requires.1 in
    omega (arith, c.write_expr.ensures.0, room.few)

pub write_behind-shape_of-out : goal.write_behind-shape_of-out
write_behind-shape_of-out t c = let a = c.args in
    same_len_mid (32 * a.done) (length a.out.now - 32 * a.done) a.out.now c.write_expr.new.out c.write_expr.auto.out

pub write_behind-returns : goal.write_behind-returns
write_behind-returns t c = let a = c.args in
    let tree = c.requires.0 in
    let room = c.requires.1 in
    let o = read_own _ _ _ tree.ready.pass a.rows.now a.level _ tree.within tree.expr _ _ c.field-from.ensures c.field-to.ensures in
    (omega (arith, c.write_expr.ensures.0), lent_put a.out.now _ _ (32 * a.done) (omega (arith, room.held)) (c.write_expr.ensures.1 ∙ ap (λ e. front (take (length a.out.now - 32 * a.done) (drop (32 * a.done) a.out.now)) (encode (nodes e))) o))

pub write_expr-copy_behind-requires : goal.write_expr-copy_behind-requires
write_expr-copy_behind-requires t c = let a = c.args in
    let tree = c.requires.0 in
    let room = c.requires.1 in
    let e : kind_at (nodes_seen a.ns.now) a.i ≡ 1 = node_read c.in-Ok-Name.ensures c.in-Ok-Name.field-0-is in
    let z = size_one _ _ _ tree.ready.pass a.rows.now a.level _ tree.within tree.expr e c.if-level-eq0.true in
    (tree.within, record { few = omega arith; held = omega (arith, z, room.held) }, omega arith)

pub write_expr-shape_of-out-in-Ok-Name : goal.write_expr-shape_of-out-in-Ok-Name
write_expr-shape_of-out-in-Ok-Name t c = omega arith

pub write_expr-returns-in-Ok-Name : goal.write_expr-returns-in-Ok-Name
write_expr-returns-in-Ok-Name t c = let a = c.args in
    let tree = c.requires.0 in
    let e : kind_at (nodes_seen a.ns.now) a.i ≡ 1 = node_read c.in-Ok-Name.ensures c.in-Ok-Name.field-0-is in
    wrote_name _ _ _ tree.ready.pass a.rows.now a.level a.out.now _ _ _ _ tree.within tree.expr _ e c.if-level-eq0.true c.copy_behind.ensures

pub write_expr-word-requires : goal.write_expr-word-requires
write_expr-word-requires t c = let tree = c.requires.0 in
    (tree.within, omega arith)

pub write_expr-upward-next-requires : goal.write_expr-upward-next-requires
write_expr-upward-next-requires t c = let a = c.args in
    let tree = c.requires.0 in
    let e : kind_at (nodes_seen a.ns.now) a.i ≡ 1 = node_read c.in-Ok-Name.ensures c.in-Ok-Name.field-0-is in
    (omega (arith, c.if-level-eq0.false), tree.deep, tree.long, rw c.word.ensures.0 (name_below _ _ _ tree.ready.pass a.rows.now a.level _ tree.within tree.expr e tree.ready.named))

pub write_expr-overflow_sub-level : goal.write_expr-overflow_sub-level
write_expr-overflow_sub-level t c = omega (arith, c.if-level-eq0.false)

pub write_expr-write_expr-requires : goal.write_expr-write_expr-requires
write_expr-write_expr-requires t c = let a = c.args in
    let if2 = c.if-level-eq0 in
    let tree = c.requires.0 in
    let room = c.requires.1 in
    let e : kind_at (nodes_seen a.ns.now) a.i ≡ 1 = node_read c.in-Ok-Name.ensures c.in-Ok-Name.field-0-is in
    let u = up_ok _ _ _ tree.ready.pass a.rows.now _ tree.within tree.expr e a.level _ _ (omega (arith, if2.false)) tree.ready.named c.word.ensures.0 c.upward-next.ensures tree.ready.fit in
    let z = up_size _ _ _ tree.ready.pass a.rows.now _ tree.within tree.expr e a.level _ _ (omega (arith, if2.false)) tree.ready.named c.word.ensures.0 c.upward-next.ensures in
    let o = node_ok _ _ _ tree.ready.pass _ u.0 in
    (omega (arith, o.within, u.0, tree.ready.few, c.decreases, if2.false), (record { ready = tree.ready; deep = omega (arith, tree.deep); long = omega (arith, tree.long); within = u.0; expr = u.1 }, record { few = rw (← z) room.few; held = rw (← z) (omega (arith, room.held)) }))

pub write_expr-shape_of-out-in-Ok-Name-2 : goal.write_expr-shape_of-out-in-Ok-Name-2
write_expr-shape_of-out-in-Ok-Name-2 t c = omega arith

pub write_expr-returns-in-Ok-Name-2 : goal.write_expr-returns-in-Ok-Name-2
write_expr-returns-in-Ok-Name-2 t c = let a = c.args in
    let tree = c.requires.0 in
    let e : kind_at (nodes_seen a.ns.now) a.i ≡ 1 = node_read c.in-Ok-Name.ensures c.in-Ok-Name.field-0-is in
    wrote_up _ _ _ tree.ready.pass a.rows.now _ tree.within tree.expr e a.level _ _ (omega (arith, c.if-level-eq0.false)) tree.ready.named c.word.ensures.0 c.upward-next.ensures a.out.now _ _ _ _ c.write_expr.ensures

pub write_expr-copy_behind-requires-in-Ok-Number : goal.write_expr-copy_behind-requires-in-Ok-Number
write_expr-copy_behind-requires-in-Ok-Number t c = let a = c.args in
    let tree = c.requires.0 in
    let room = c.requires.1 in
    let e : kind_at (nodes_seen a.ns.now) a.i ≡ 2 = node_read c.in-Ok-Number.ensures c.in-Ok-Number.field-0-is in
    let z = size_number _ _ _ tree.ready.pass a.rows.now a.level _ tree.within tree.expr e in
    (tree.within, record { few = omega arith; held = omega (arith, z, room.held) }, omega arith)

pub write_expr-shape_of-out-in-Ok-Number : goal.write_expr-shape_of-out-in-Ok-Number
write_expr-shape_of-out-in-Ok-Number t c = omega arith

pub write_expr-returns-in-Ok-Number : goal.write_expr-returns-in-Ok-Number
write_expr-returns-in-Ok-Number t c = let a = c.args in
    let tree = c.requires.0 in
    let e : kind_at (nodes_seen a.ns.now) a.i ≡ 2 = node_read c.in-Ok-Number.ensures c.in-Ok-Number.field-0-is in
    wrote_number _ _ _ tree.ready.pass a.rows.now a.level a.out.now _ _ _ _ tree.within tree.expr _ e c.copy_behind-in-Ok-Number.ensures

pub write_expr-overflow_sub-left : goal.write_expr-overflow_sub-left
write_expr-overflow_sub-left t c = let args = c.args in
    let tree = c.requires.0 in
    let e : kind_at (nodes_seen args.ns.now) args.i ≡ 3 = node_read c.in-Ok-Binary.ensures c.in-Ok-Binary.field-0-is in
    let a = two_below _ _ _ tree.ready.pass _ tree.within e in
    omega (arith, a.le)

pub write_expr-overflow_sub-i : goal.write_expr-overflow_sub-i
write_expr-overflow_sub-i t c = let args = c.args in
    let tree = c.requires.0 in
    let e : kind_at (nodes_seen args.ns.now) args.i ≡ 3 = node_read c.in-Ok-Binary.ensures c.in-Ok-Binary.field-0-is in
    let a = two_below _ _ _ tree.ready.pass _ tree.within e in
    omega (arith, a.le)

pub write_expr-word-requires-in-Ok-Binary : goal.write_expr-word-requires-in-Ok-Binary
write_expr-word-requires-in-Ok-Binary t c = let args = c.args in
    let tree = c.requires.0 in
    let e : kind_at (nodes_seen args.ns.now) args.i ≡ 3 = node_read c.in-Ok-Binary.ensures c.in-Ok-Binary.field-0-is in
    let a = two_below _ _ _ tree.ready.pass _ tree.within e in
    (omega (arith, a.le, tree.within), omega arith)

pub write_expr-overflow_sub-left-in-Ok-Binary : goal.write_expr-overflow_sub-left-in-Ok-Binary
write_expr-overflow_sub-left-in-Ok-Binary t c = let args = c.args in
    let tree = c.requires.0 in
    let e : kind_at (nodes_seen args.ns.now) args.i ≡ 3 = node_read c.in-Ok-Binary.ensures c.in-Ok-Binary.field-0-is in
    let a = two_below _ _ _ tree.ready.pass _ tree.within e in
    omega (arith, a.le, c.word-in-Ok-Binary.ensures.0)

pub write_expr-write_behind-a-requires : goal.write_expr-write_behind-a-requires
write_expr-write_behind-a-requires t c = let args = c.args in
    let tree = c.requires.0 in
    let room = c.requires.1 in
    let e : kind_at (nodes_seen args.ns.now) args.i ≡ 3 = node_read c.in-Ok-Binary.ensures c.in-Ok-Binary.field-0-is in
    let a = two_below _ _ _ tree.ready.pass _ tree.within e in
    let z = size_binary _ _ _ tree.ready.pass args.rows.now args.level _ tree.within tree.expr e in
    rw c.word-in-Ok-Binary.ensures.0 (omega (arith, a.eq, a.pos₂, c.decreases), (record { ready = tree.ready; deep = tree.deep; long = tree.long; within = omega (arith, tree.within); expr = a.left }, record { few = omega (arith, z, room.few); held = omega (arith, z, room.held) }))

pub write_expr-overflow_sub-i-in-Ok-Binary : goal.write_expr-overflow_sub-i-in-Ok-Binary
write_expr-overflow_sub-i-in-Ok-Binary t c = let args = c.args in
    let tree = c.requires.0 in
    let e : kind_at (nodes_seen args.ns.now) args.i ≡ 3 = node_read c.in-Ok-Binary.ensures c.in-Ok-Binary.field-0-is in
    let a = two_below _ _ _ tree.ready.pass _ tree.within e in
    omega (arith, a.le)

pub write_expr-write_behind-b-requires : goal.write_expr-write_behind-b-requires
write_expr-write_behind-b-requires t c = let args = c.args in
    let tree = c.requires.0 in
    let room = c.requires.1 in
    let e : kind_at (nodes_seen args.ns.now) args.i ≡ 3 = node_read c.in-Ok-Binary.ensures c.in-Ok-Binary.field-0-is in
    let a = two_below _ _ _ tree.ready.pass _ tree.within e in
    let z = size_binary _ _ _ tree.ready.pass args.rows.now args.level _ tree.within tree.expr e in
    let r = rw c.word-in-Ok-Binary.ensures.0 at c.write_behind-a.ensures.0 in
    (omega (arith, a.eq, a.pos₁, c.decreases), (record { ready = tree.ready; deep = tree.deep; long = tree.long; within = omega (arith, tree.within); expr = a.right }, record { few = omega (arith, z, r, room.few); held = omega (arith, z, r, room.held) }))

pub write_expr-overflow_add-b : goal.write_expr-overflow_add-b
write_expr-overflow_add-b t c = let args = c.args in
    let tree = c.requires.0 in
    let room = c.requires.1 in
    let e : kind_at (nodes_seen args.ns.now) args.i ≡ 3 = node_read c.in-Ok-Binary.ensures c.in-Ok-Binary.field-0-is in
    let z = size_binary _ _ _ tree.ready.pass args.rows.now args.level _ tree.within tree.expr e in
    let r = rw c.word-in-Ok-Binary.ensures.0 at c.write_behind-a.ensures.0 in
    omega (arith, z, r, c.write_behind-b.ensures.0, room.few)

pub write_expr-copy_behind-requires-in-Ok-Binary : goal.write_expr-copy_behind-requires-in-Ok-Binary
write_expr-copy_behind-requires-in-Ok-Binary t c = let args = c.args in
    let tree = c.requires.0 in
    let room = c.requires.1 in
    let e : kind_at (nodes_seen args.ns.now) args.i ≡ 3 = node_read c.in-Ok-Binary.ensures c.in-Ok-Binary.field-0-is in
    let z = size_binary _ _ _ tree.ready.pass args.rows.now args.level _ tree.within tree.expr e in
    let r = rw c.word-in-Ok-Binary.ensures.0 at c.write_behind-a.ensures.0 in
    let q = c.write_behind-b.ensures.0 in
    let same = c.write_behind-b.auto.out ∙ c.write_behind-a.auto.out in
    (tree.within, record { few = omega (arith, z, r, q, room.few); held = omega (arith, z, r, q, room.held, same) }, omega (arith, z, r, q, room.few))

pub write_expr-shape_of-out-in-Ok-Binary : goal.write_expr-shape_of-out-in-Ok-Binary
write_expr-shape_of-out-in-Ok-Binary t c = omega arith

pub write_expr-returns-in-Ok-Binary : goal.write_expr-returns-in-Ok-Binary
write_expr-returns-in-Ok-Binary t c = let args = c.args in
    let tree = c.requires.0 in
    let e : kind_at (nodes_seen args.ns.now) args.i ≡ 3 = node_read c.in-Ok-Binary.ensures c.in-Ok-Binary.field-0-is in
    wrote_binary _ _ _ tree.ready.pass args.rows.now args.level args.out.now _ _ _ _ tree.within tree.expr _ _ _ _ _ _ e c.word-in-Ok-Binary.ensures.0 c.write_behind-a.ensures c.write_behind-b.ensures c.copy_behind-in-Ok-Binary.ensures

pub write_expr-overflow_sub-i-in-Ok-Unary : goal.write_expr-overflow_sub-i-in-Ok-Unary
write_expr-overflow_sub-i-in-Ok-Unary t c = let args = c.args in
    let tree = c.requires.0 in
    let e : kind_at (nodes_seen args.ns.now) args.i ≡ 4 = node_read c.in-Ok-Unary.ensures c.in-Ok-Unary.field-0-is in
    let a = (node_ok _ _ _ tree.ready.pass _ tree.within).unary e in
    omega (arith, a.0)

pub write_expr-write_behind-a-requires-in-Ok-Unary : goal.write_expr-write_behind-a-requires-in-Ok-Unary
write_expr-write_behind-a-requires-in-Ok-Unary t c = let args = c.args in
    let tree = c.requires.0 in
    let room = c.requires.1 in
    let e : kind_at (nodes_seen args.ns.now) args.i ≡ 4 = node_read c.in-Ok-Unary.ensures c.in-Ok-Unary.field-0-is in
    let a = (node_ok _ _ _ tree.ready.pass _ tree.within).unary e in
    let z = size_unary _ _ _ tree.ready.pass args.rows.now args.level _ tree.within tree.expr e in
    (omega (arith, a.1, c.decreases), (record { ready = tree.ready; deep = tree.deep; long = tree.long; within = omega (arith, tree.within); expr = a.2 }, record { few = omega (arith, z, room.few); held = omega (arith, z, room.held) }))

pub write_expr-overflow_add-a : goal.write_expr-overflow_add-a
write_expr-overflow_add-a t c = let args = c.args in
    let tree = c.requires.0 in
    let room = c.requires.1 in
    let e : kind_at (nodes_seen args.ns.now) args.i ≡ 4 = node_read c.in-Ok-Unary.ensures c.in-Ok-Unary.field-0-is in
    let z = size_unary _ _ _ tree.ready.pass args.rows.now args.level _ tree.within tree.expr e in
    omega (arith, z, c.write_behind-a-in-Ok-Unary.ensures.0, room.few)

pub write_expr-copy_behind-requires-in-Ok-Unary : goal.write_expr-copy_behind-requires-in-Ok-Unary
write_expr-copy_behind-requires-in-Ok-Unary t c = let args = c.args in
    let tree = c.requires.0 in
    let room = c.requires.1 in
    let e : kind_at (nodes_seen args.ns.now) args.i ≡ 4 = node_read c.in-Ok-Unary.ensures c.in-Ok-Unary.field-0-is in
    let z = size_unary _ _ _ tree.ready.pass args.rows.now args.level _ tree.within tree.expr e in
    let q = c.write_behind-a-in-Ok-Unary.ensures.0 in
    (tree.within, record { few = omega (arith, z, q, room.few); held = omega (arith, z, q, room.held) }, omega (arith, z, q, room.few))

pub write_expr-shape_of-out-in-Ok-Unary : goal.write_expr-shape_of-out-in-Ok-Unary
write_expr-shape_of-out-in-Ok-Unary t c = omega arith

pub write_expr-returns-in-Ok-Unary : goal.write_expr-returns-in-Ok-Unary
write_expr-returns-in-Ok-Unary t c = let args = c.args in
    let tree = c.requires.0 in
    let e : kind_at (nodes_seen args.ns.now) args.i ≡ 4 = node_read c.in-Ok-Unary.ensures c.in-Ok-Unary.field-0-is in
    wrote_unary _ _ _ tree.ready.pass args.rows.now args.level args.out.now _ _ _ _ tree.within tree.expr _ _ _ e c.write_behind-a-in-Ok-Unary.ensures c.copy_behind-in-Ok-Unary.ensures

pub write_expr-word-total-requires : goal.write_expr-word-total-requires
write_expr-word-total-requires t c = let tree = c.requires.0 in
    (tree.within, omega arith)

pub write_expr-overflow_sub-total : goal.write_expr-overflow_sub-total
write_expr-overflow_sub-total t c = let tree = c.requires.0 in
    let o = node_ok _ _ _ tree.ready.pass _ tree.within in
    omega (arith, o.pos, c.word-total.ensures.0)

pub write_expr-word-args-requires : goal.write_expr-word-args-requires
write_expr-word-args-requires t c = let tree = c.requires.0 in
    (tree.within, omega arith)

pub write_expr-write_args-a-requires : goal.write_expr-write_args-a-requires
write_expr-write_args-a-requires t c = let a = c.args in
    let tree = c.requires.0 in
    let room = c.requires.1 in
    let e : kind_at (nodes_seen a.ns.now) a.i ≡ 5 = node_read c.in-Ok-Call.ensures c.in-Ok-Call.field-0-is in
    let o = node_ok _ _ _ tree.ready.pass _ tree.within in
    let z = size_call _ _ _ tree.ready.pass a.rows.now a.level _ tree.within tree.expr e in
    rw (c.word-args.ensures.0, c.word-total.ensures.0) (omega (arith, o.pos, c.decreases), (record { ready = tree.ready; deep = tree.deep; long = tree.long; within = omega (arith, tree.within); args = o.call e }, record { few = omega (arith, z, room.few); held = omega (arith, z, room.held) }))

pub write_expr-overflow_add-a-in-Ok-Call : goal.write_expr-overflow_add-a-in-Ok-Call
write_expr-overflow_add-a-in-Ok-Call t c = let a = c.args in
    let tree = c.requires.0 in
    let room = c.requires.1 in
    let e : kind_at (nodes_seen a.ns.now) a.i ≡ 5 = node_read c.in-Ok-Call.ensures c.in-Ok-Call.field-0-is in
    let z = size_call _ _ _ tree.ready.pass a.rows.now a.level _ tree.within tree.expr e in
    let r = rw (c.word-args.ensures.0, c.word-total.ensures.0) at c.write_args-a.ensures.0 in
    omega (arith, z, r, room.few)

pub write_expr-copy_behind-requires-in-Ok-Call : goal.write_expr-copy_behind-requires-in-Ok-Call
write_expr-copy_behind-requires-in-Ok-Call t c = let a = c.args in
    let tree = c.requires.0 in
    let room = c.requires.1 in
    let e : kind_at (nodes_seen a.ns.now) a.i ≡ 5 = node_read c.in-Ok-Call.ensures c.in-Ok-Call.field-0-is in
    let z = size_call _ _ _ tree.ready.pass a.rows.now a.level _ tree.within tree.expr e in
    let r = rw (c.word-args.ensures.0, c.word-total.ensures.0) at c.write_args-a.ensures.0 in
    (tree.within, record { few = omega (arith, z, r, room.few); held = omega (arith, z, r, room.held) }, omega (arith, z, r, room.few))

pub write_expr-shape_of-out-in-Ok-Call : goal.write_expr-shape_of-out-in-Ok-Call
write_expr-shape_of-out-in-Ok-Call t c = omega arith

pub write_expr-returns-in-Ok-Call : goal.write_expr-returns-in-Ok-Call
write_expr-returns-in-Ok-Call t c = let a = c.args in
    let tree = c.requires.0 in
    let e : kind_at (nodes_seen a.ns.now) a.i ≡ 5 = node_read c.in-Ok-Call.ensures c.in-Ok-Call.field-0-is in
    wrote_call _ _ _ tree.ready.pass a.rows.now a.level a.out.now _ _ _ _ tree.within tree.expr _ _ _ _ _ e c.word-args.ensures.0 c.word-total.ensures.0 c.write_args-a.ensures c.copy_behind-in-Ok-Call.ensures

pub write_expr-unreachable-requires : goal.write_expr-unreachable-requires
write_expr-unreachable-requires t c = expr_no_argument _ _ c.requires.0.expr c.in-Ok-Argument.ensures c.in-Ok-Argument.field-0-is

pub write_expr-unreachable-requires-in-Err : goal.write_expr-unreachable-requires-in-Err
write_expr-unreachable-requires-in-Err t c = expr_read _ _ c.requires.0.expr c.in-Err.ensures
