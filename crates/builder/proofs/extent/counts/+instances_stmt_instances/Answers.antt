use mathlib.Core.Path.{sym, ap, ◌∙◌}
use Prim.Native.Nat.{ℕ, ◌+◌, ◌-◌}
use native.Mathlib.Omega.{arith}
use Rattle.ast.specs.Opens.{file_in}
use Rattle.ast.specs.Rows.{at_most}
use Rattle.ast.proofs.Capped.{at_most_zero, at_most_none, at_most_one}
use Rattle.definitions.specs.Flatten.{model_at}
use Rattle.builder.specs.Checking.{stmt_in}
use Rattle.builder.specs.Starting.{place_as}
use Rattle.builder.proofs.laws.Amounts.{called_instances, at_most_add, sum_none, called_none, called_one, instances_zero, instances_more, run_next, run_end}
use Rattle.builder.proofs.laws.Calling.{called_below}
use Rattle.builder.proofs.laws.Open.{models_long}
use Rattle.builder.proofs.laws.OpenRecords.{model_is}
use Rattle.builder.proofs.extent.counts.+instances_stmt_instances.Goals as goal

pub instances-returns-then-k-eq0 : goal.instances-returns-then-k-eq0
instances-returns-then-k-eq0 t c = let a = c.args in
    at_most_none _ _ (instances_zero (file_in a.calls.now.file.bytes.now a.calls.now.file.sections) a.k a.m c.if-k-eq0.true)

pub instances-returns-then-most-eq0 : goal.instances-returns-then-most-eq0
instances-returns-then-most-eq0 t c = at_most_zero _ _ c.if-most-eq0.true

pub instances-loop-q-init : goal.instances-loop-q-init
instances-loop-q-init t c = let a = c.args in
    (0, omega arith, at_most_one _ _ c.if-most-eq0.false (ap (λ (z : ℕ). 1 + z) (sum_none (called_instances (file_in a.calls.now.file.bytes.now a.calls.now.file.sections) (a.k - 1)) (model_at (file_in a.calls.now.file.bytes.now a.calls.now.file.sections) a.m).stmts)))

pub instances-overflow_sub-most : goal.instances-overflow_sub-most
unfolding at_most
instances-overflow_sub-most t c = omega arith

pub instances-stmt_instances-total-requires : goal.instances-stmt_instances-total-requires
instances-stmt_instances-total-requires t c = let a = c.args in
    let p = c.requires in
    (omega arith, (omega (arith, (model_is a.calls.now.file.bytes.now a.calls.now.file.sections a.calls.now.file.opened a.m p.0).stmts_within, c.model-first.ensures.0, c.model-count.ensures.0), omega arith, omega arith))

pub instances-overflow_add-total : goal.instances-overflow_add-total
unfolding at_most
instances-overflow_add-total t c = omega arith

pub instances-loop-q-preserved : goal.instances-loop-q-preserved
instances-loop-q-preserved t c = let a = c.args in
    let loop = c.loop-q in
    let p = c.requires in
    let g = called_instances (file_in a.calls.now.file.bytes.now a.calls.now.file.sections) (a.k - 1) in
    let inv = loop.invariant in
    let r = run_next a.calls.now.file.bytes.now a.calls.now.file.sections a.calls.now.file.opened a.m p.0 g inv.0 loop.q (omega (arith, inv.1, c.model-first.ensures.0)) (omega (arith, c.loop-q-test.true, inv.1, c.model-count.ensures.0)) in
    (inv.0 + 1, omega (arith, inv.1), at_most_add _ _ _ _ (g (stmt_in a.calls.now.file.bytes.now a.calls.now.file.sections loop.q)) inv.2 c.stmt_instances-total.ensures ∙ ap (at_most a.most) (omega (arith, r)))

pub instances-returns : goal.instances-returns
instances-returns t c = let a = c.args in
    let p = c.requires in
    c.loop-q.invariant.2 ∙ ap (at_most a.most) (ap (λ (z : ℕ). 1 + z) (run_end a.calls.now.file.bytes.now a.calls.now.file.sections a.calls.now.file.opened a.m p.0 (called_instances (file_in a.calls.now.file.bytes.now a.calls.now.file.sections) (a.k - 1)) c.loop-q.invariant.0 (omega (arith, c.loop-q-test.false, c.loop-q.invariant.1, c.model-count.ensures.0))) ∙ sym (instances_more (file_in a.calls.now.file.bytes.now a.calls.now.file.sections) a.k a.m c.if-k-eq0.false))

pub stmt_instances-instances-requires : goal.stmt_instances-instances-requires
unfolding place_as
stmt_instances-instances-requires t c = let a = c.args in
    let s = a.calls.now.file in
    (omega arith, (omega (arith, called_below (file_in s.bytes.now s.sections) _ _ (sym c.in-Some.ensures), models_long s.bytes.now s.sections), omega arith, omega arith))

pub stmt_instances-returns-in-Some : goal.stmt_instances-returns-in-Some
unfolding place_as
stmt_instances-returns-in-Some t c = let a = c.args in
    let s = a.calls.now.file in
    c.instances.ensures ∙ ap (at_most a.most) (sym (called_one (file_in s.bytes.now s.sections) a.k (stmt_in s.bytes.now s.sections a.q) _ (sym c.in-Some.ensures)))

pub stmt_instances-returns-in-None : goal.stmt_instances-returns-in-None
unfolding place_as
stmt_instances-returns-in-None t c = let a = c.args in
    let s = a.calls.now.file in
    at_most_none _ _ (called_none (file_in s.bytes.now s.sections) a.k (stmt_in s.bytes.now s.sections a.q) (sym c.in-None.ensures))
