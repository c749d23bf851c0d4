use mathlib.Core.Path.{refl, sym, ◌∙◌}
use Prim.Native.Nat.{◌+◌}
use native.Mathlib.Omega.{arith}
use borrow.Author.Tests.{eqb-true}
use Rattle.ast.specs.Rows.{levels_of}
use Rattle.ast.specs.Opens.{contents_in, file_in}
use Rattle.builder.specs.Starting.{place_as}
use Rattle.builder.proofs.laws.Descents.{flat_zero, rows_first, rows_deeper, rows_kept, call_none, call_done, call_below, call_is, call_deeper}
use Rattle.builder.proofs.laws.Writing.{writing_start, writing_room, writing_step, writing_end, nothing_put, fits_same, put_same}
use Rattle.builder.proofs.laws.OpenRecords.{model_is}
use Rattle.builder.proofs.flattening.statements.+write_flats_write_stmt.Goals as goal

pub write_flats-returns-then-k-eq0 : goal.write_flats-returns-then-k-eq0
write_flats-returns-then-k-eq0 t c = let a = c.args in
    (nothing_put a.done a.out.now _ (flat_zero (file_in a.calls.now.file.bytes.now a.calls.now.file.sections) (levels_of (contents_in a.calls.now.file.bytes.now a.calls.now.file.sections).nodes a.rows.now a.level) a.k a.m c.if-k-eq0.true), (refl, refl, c.requires.1.fit))

pub write_flats-loop-q-init : goal.write_flats-loop-q-init
write_flats-loop-q-init t c = let a = c.args in
    (0, omega arith, writing_start a.calls.now.file.bytes.now a.calls.now.file.sections a.k a.m a.rows.now a.level a.out.now a.done c.if-k-eq0.false c.requires.1.fit c.requires.2)

pub write_flats-write_stmt-total-requires : goal.write_flats-write_stmt-total-requires
write_flats-write_stmt-total-requires t c = let a = c.args in
    let if1 = c.if-k-eq0 in
    let model2 = c.model-count in
    let loop = c.loop-q in
    let p = c.requires in
    let v = loop.invariant.2 in
    (omega (arith, c.decreases, if1.false), (omega (arith, (model_is a.calls.now.file.bytes.now a.calls.now.file.sections a.calls.now.file.opened a.m p.0).stmts_within, c.model-first.ensures.0, model2.ensures.0), record { deep = omega (arith, p.1.deep, if1.false); long = omega (arith, p.1.long, v.long, if1.false); fit = v.fit }, writing_room a.calls.now.file.bytes.now a.calls.now.file.sections a.k a.m a.rows.now a.level a.out.now a.done a.calls.now.file.opened p.0 _ _ _ _ v _ (omega (arith, c.loop-q-test.true, loop.invariant.1, model2.ensures.0)) (omega (arith, loop.invariant.1, c.model-first.ensures.0))))

pub write_flats-loop-q-preserved : goal.write_flats-loop-q-preserved
write_flats-loop-q-preserved t c = let a = c.args in
    let inv = c.loop-q.invariant in
    (inv.0 + 1, omega (arith, inv.1), writing_step a.calls.now.file.bytes.now a.calls.now.file.sections a.k a.m a.rows.now a.level a.out.now a.done a.calls.now.file.opened c.requires.0 _ _ _ _ inv.2 _ (omega (arith, c.loop-q-test.true, inv.1, c.model-count.ensures.0)) (omega (arith, inv.1, c.model-first.ensures.0)) _ _ _ c.write_stmt-total.ensures)

pub write_flats-returns : goal.write_flats-returns
write_flats-returns t c = let a = c.args in
    let v = c.loop-q.invariant.2 in
    (writing_end a.calls.now.file.bytes.now a.calls.now.file.sections a.k a.m a.rows.now a.level a.out.now a.done a.calls.now.file.opened c.requires.0 _ _ _ _ v (omega (arith, c.loop-q-test.false, c.loop-q.invariant.1, c.model-count.ensures.0)), (v.long, v.kept, v.fit))

pub write_stmt-find_replacements-requires : goal.write_stmt-find_replacements-requires
unfolding place_as
write_stmt-find_replacements-requires t c = let a = c.args in
    let s = a.calls.now.file in
    let p = c.requires in
    (call_is s.bytes.now s.sections s.opened a.q p.0 (eqb-true _ _ (sym c.is_stmt.ensures ∙ c.if-not-is_stmt.false)) a.rows.now a.level a.k _ (sym c.in-Some.ensures) _ c.stmt-call.ensures.0, rows_first s.bytes.now s.sections a.rows.now a.level a.k p.1)

pub write_stmt-write_flats-requires : goal.write_stmt-write_flats-requires
unfolding place_as
write_stmt-write_flats-requires t c = let a = c.args in
    let s = a.calls.now.file in
    let p = c.requires in
    let g = c.find_replacements.ensures in
    let kind = eqb-true _ _ (sym c.is_stmt.ensures ∙ c.if-not-is_stmt.false) in
    let below = call_below s.bytes.now s.sections s.opened a.q p.0 kind a.rows.now a.level a.k _ (sym c.in-Some.ensures) in
    let e = call_deeper s.bytes.now s.sections s.opened a.q p.0 kind a.rows.now a.level a.k _ (sym c.in-Some.ensures) _ c.stmt-call.ensures.0 _ g in
    (omega (arith, c.decreases), (below, rows_deeper s.bytes.now s.sections a.rows.now a.level a.k p.1 _ g.0, fits_same _ _ _ _ e p.2))

pub write_stmt-returns-in-Some : goal.write_stmt-returns-in-Some
unfolding place_as
write_stmt-returns-in-Some t c = let a = c.args in
    let s = a.calls.now.file in
    let p = c.requires in
    let g = c.find_replacements.ensures in
    let h = c.write_flats.ensures in
    let e = call_deeper s.bytes.now s.sections s.opened a.q p.0 (eqb-true _ _ (sym c.is_stmt.ensures ∙ c.if-not-is_stmt.false)) a.rows.now a.level a.k _ (sym c.in-Some.ensures) _ c.stmt-call.ensures.0 _ g in
    (put_same _ _ _ _ _ _ e h.0, rows_kept s.bytes.now s.sections a.rows.now a.level a.k p.1 _ g.0 _ h.1)

pub write_stmt-returns-in_default : goal.write_stmt-returns-in_default
write_stmt-returns-in_default t c = let a = c.args in
    let s = a.calls.now.file in
    let p = c.requires in
    (nothing_put a.done a.out.now _ (call_done s.bytes.now s.sections s.opened a.q p.0 (eqb-true _ _ (sym c.is_stmt.ensures ∙ c.if-not-is_stmt.false)) a.rows.now a.level a.k (omega arith)), (refl, refl, p.1.fit))

pub write_stmt-returns-in_default-2 : goal.write_stmt-returns-in_default-2
unfolding place_as
write_stmt-returns-in_default-2 t c = let a = c.args in
    let s = a.calls.now.file in
    let p = c.requires in
    (nothing_put a.done a.out.now _ (call_none s.bytes.now s.sections s.opened a.q p.0 (eqb-true _ _ (sym c.is_stmt.ensures ∙ c.if-not-is_stmt.false)) a.rows.now a.level a.k (sym c.in_default.ensures)), (refl, refl, p.1.fit))
