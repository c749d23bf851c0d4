use mathlib.Core.Path.{refl, sym, ◌∙◌}
use Prim.Native.Nat.{◌+◌}
use native.Mathlib.Omega.{arith}
use borrow.Author.Tests.{eqb-true}
use Rattle.builder.specs.Starting.{place_as}
use Rattle.builder.proofs.laws.Descents.{flat_zero, rows_first, rows_deeper, rows_kept, call_none, call_done, call_below, call_is, call_deeper}
use Rattle.builder.proofs.laws.Extents.{extended_none, extended_full, extended_same, counting_start, counting_step, counting_end}
use Rattle.builder.proofs.laws.OpenRecords.{model_is}
use Rattle.builder.proofs.extent.counts.+flat_extent_stmt_extent.Goals as goal

pub flat_extent-returns-then-k-eq0 : goal.flat_extent-returns-then-k-eq0
flat_extent-returns-then-k-eq0 t c = let a = c.args in
    let p = c.requires in
    (extended_none a.done _ p.2 (flat_zero _ _ a.k a.m c.if-k-eq0.true), (refl, refl, p.1.fit))

pub flat_extent-loop-q-init : goal.flat_extent-loop-q-init
flat_extent-loop-q-init t c = let a = c.args in
    let p = c.requires in
    (0, omega arith, counting_start a.calls.now.file.bytes.now a.calls.now.file.sections a.k a.m a.rows.now a.level a.done c.if-k-eq0.false p.1.fit p.2)

pub flat_extent-stmt_extent-total-requires : goal.flat_extent-stmt_extent-total-requires
flat_extent-stmt_extent-total-requires t c = let a = c.args in
    let if1 = c.if-k-eq0 in
    let p = c.requires in
    let v = c.loop-q.invariant.2 in
    (omega (arith, c.decreases, if1.false), (omega (arith, (model_is a.calls.now.file.bytes.now a.calls.now.file.sections a.calls.now.file.opened a.m p.0).stmts_within, c.model-first.ensures.0, c.model-count.ensures.0), record { deep = omega (arith, p.1.deep, if1.false); long = omega (arith, p.1.long, v.long, if1.false); fit = v.fit }, v.counted))

pub flat_extent-loop-q-preserved : goal.flat_extent-loop-q-preserved
flat_extent-loop-q-preserved t c = let a = c.args in
    let inv = c.loop-q.invariant in
    (inv.0 + 1, omega (arith, inv.1), counting_step a.calls.now.file.bytes.now a.calls.now.file.sections a.k a.m a.rows.now a.level a.done a.calls.now.file.opened c.requires.0 _ _ _ inv.2 _ _ _ (omega (arith, c.loop-q-test.true, inv.1, c.model-count.ensures.0)) (omega (arith, inv.1, c.model-first.ensures.0)) c.stmt_extent-total.ensures)

pub flat_extent-returns : goal.flat_extent-returns
flat_extent-returns t c = let a = c.args in
    let v = c.loop-q.invariant.2 in
    (counting_end a.calls.now.file.bytes.now a.calls.now.file.sections a.k a.m a.rows.now a.level a.done a.calls.now.file.opened c.requires.0 _ _ _ v (omega (arith, c.loop-q-test.false, c.loop-q.invariant.1, c.model-count.ensures.0)), (v.long, v.kept, v.fit))

pub stmt_extent-returns-then-done : goal.stmt_extent-returns-then-done
stmt_extent-returns-then-done t c = (extended_full c.args.done _ c.requires.2 c.if-done.true, (refl, refl, c.requires.1.fit))

pub stmt_extent-find_replacements-requires : goal.stmt_extent-find_replacements-requires
unfolding place_as
stmt_extent-find_replacements-requires t c = let a = c.args in
    let s = a.calls.now.file in
    let p = c.requires in
    (call_is s.bytes.now s.sections s.opened a.q p.0 (eqb-true _ _ (sym c.is_stmt.ensures ∙ c.if-not-is_stmt.false)) a.rows.now a.level a.k _ (sym c.in-Some.ensures) _ c.stmt-call.ensures.0, rows_first s.bytes.now s.sections a.rows.now a.level a.k p.1)

pub stmt_extent-flat_extent-requires : goal.stmt_extent-flat_extent-requires
unfolding place_as
stmt_extent-flat_extent-requires t c = let a = c.args in
    let s = a.calls.now.file in
    let p = c.requires in
    let below = call_below s.bytes.now s.sections s.opened a.q p.0 (eqb-true _ _ (sym c.is_stmt.ensures ∙ c.if-not-is_stmt.false)) a.rows.now a.level a.k _ (sym c.in-Some.ensures) in
    (omega (arith, c.decreases), (below, rows_deeper s.bytes.now s.sections a.rows.now a.level a.k p.1 _ c.find_replacements.ensures.0, p.2))

pub stmt_extent-returns-in-Some : goal.stmt_extent-returns-in-Some
unfolding place_as
stmt_extent-returns-in-Some t c = let a = c.args in
    let s = a.calls.now.file in
    let p = c.requires in
    let g = c.find_replacements.ensures in
    let h = c.flat_extent.ensures in
    let e = call_deeper s.bytes.now s.sections s.opened a.q p.0 (eqb-true _ _ (sym c.is_stmt.ensures ∙ c.if-not-is_stmt.false)) a.rows.now a.level a.k _ (sym c.in-Some.ensures) _ c.stmt-call.ensures.0 _ g in
    (extended_same a.done _ _ _ e h.0, rows_kept s.bytes.now s.sections a.rows.now a.level a.k p.1 _ g.0 _ h.1)

pub stmt_extent-returns-in_default : goal.stmt_extent-returns-in_default
stmt_extent-returns-in_default t c = let a = c.args in
    let s = a.calls.now.file in
    let p = c.requires in
    (extended_none a.done _ p.2 (call_done s.bytes.now s.sections s.opened a.q p.0 (eqb-true _ _ (sym c.is_stmt.ensures ∙ c.if-not-is_stmt.false)) a.rows.now a.level a.k (omega arith)), (refl, refl, p.1.fit))

pub stmt_extent-returns-in_default-2 : goal.stmt_extent-returns-in_default-2
unfolding place_as
stmt_extent-returns-in_default-2 t c = let a = c.args in
    let s = a.calls.now.file in
    let p = c.requires in
    (extended_none a.done _ p.2 (call_none s.bytes.now s.sections s.opened a.q p.0 (eqb-true _ _ (sym c.is_stmt.ensures ∙ c.if-not-is_stmt.false)) a.rows.now a.level a.k (sym c.in_default.ensures)), (refl, refl, p.1.fit))
