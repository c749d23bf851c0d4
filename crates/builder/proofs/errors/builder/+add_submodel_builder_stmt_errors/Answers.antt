use mathlib.Core.Path.{refl, sym, ◌∙◌}
use mathlib.Core.List.{[]}
use Prim.Native.Nat.{◌+◌, ◌-◌}
use native.Mathlib.Omega.{arith}
use borrow.Author.Tests.{eqb-true, eqb-false}
use Rattle.ast.specs.Views.{file_seen}
use Rattle.definitions.specs.Flatten.{model_at, stmt_errors, errors_of}
use Rattle.builder.specs.Checking.{stmt_in}
use Rattle.builder.specs.Seen.{scope_seen}
use Rattle.builder.specs.Starting.{place_as}
use Rattle.area.proofs.Listings.{none_listed, listed_then, room_first, listed_room}
use Rattle.builder.proofs.laws.Open.{models_long}
use Rattle.builder.proofs.laws.Runs.{stmts_below}
use Rattle.builder.proofs.laws.Calling.{called_below}
use Rattle.builder.proofs.laws.Calls.{call_args}
use Rattle.builder.proofs.laws.ModelErrors.{run_begins_lent, run_room_lent, run_goes_lent, run_ends_lent, stmt_here, stmt_there, stmts_past, errors_none, errors_more, not_three, own_same, call_in, any_scope, submodel_missing_lem, submodel_found}
use Rattle.builder.proofs.errors.builder.+add_submodel_builder_stmt_errors.Goals as goal

pub add_submodel-put-requires : goal.add_submodel-put-requires
add_submodel-put-requires t c = let a = c.args in
    let f = a.tables.now.names.file in
    let r = c.requires.2 (scope_seen f 0) in
    omega (arith, r)

pub add_submodel-returns-in_default : goal.add_submodel-returns-in_default
unfolding place_as
add_submodel-returns-in_default t c = let a = c.args in
    let f = a.tables.now.names.file in
    let l = rw c.missing_error.ensures at c.put.ensures in
    λ o. rw (submodel_missing_lem f.opened a.q c.requires.0.within 3 (sym c.requires.1) refl (λ j. errors_of (file_seen f) a.k j) o (rw c.requires.3 at c.in_default.ensures)) l

pub add_submodel-builder-requires : goal.add_submodel-builder-requires
unfolding place_as
add_submodel-builder-requires t c = let a = c.args in
    let f = a.tables.now.names.file in
    let o = scope_seen f 0 in
    let e = submodel_found f.opened a.q c.requires.0.within 3 (sym c.requires.1) refl (λ j. errors_of (file_seen f) a.k j) o c.in-Some.c (rw c.requires.3 at c.in-Some.ensures) _ refl _ refl in
    (omega (arith, c.decreases), (omega (arith, called_below (file_seen f) _ _ (sym (rw c.requires.3 at c.in-Some.ensures)), models_long f.bytes.now f.sections), c.requires.0.deep, room_first e _ (c.requires.2 o), c.requires.3))

pub add_submodel-run_of-run-requires : goal.add_submodel-run_of-run-requires
add_submodel-run_of-run-requires t c = let stmt = c.stmt in
    rw (c.nodes-nodes.ensures.0, c.nodes-nodes.ensures.1) (_, call_in c.args.tables.now.names.file.opened c.args.q c.requires.0.within 3 (sym c.requires.1) refl stmt.result stmt.ensures.0)

pub add_submodel-order_errors-requires : goal.add_submodel-order_errors-requires
unfolding place_as
add_submodel-order_errors-requires t c = let a = c.args in
    let f = a.tables.now.names.file in
    let o = scope_seen f 0 in
    let stmt = c.stmt in
    let run_of = c.run_of-run in
    let run = rw (c.nodes-nodes.ensures.0, c.nodes-nodes.ensures.1) at run_of.ensures in
    let e = submodel_found f.opened a.q c.requires.0.within 3 (sym c.requires.1) refl (λ j. errors_of (file_seen f) a.k j) o c.in-Some.c (rw c.requires.3 at c.in-Some.ensures) stmt.result stmt.ensures.0 run_of.result run.0 in
    rw (c.nodes-nodes.ensures.0, c.nodes-nodes.ensures.1) ((_, call_args (call_in f.opened a.q c.requires.0.within 3 (sym c.requires.1) refl stmt.result stmt.ensures.0) run_of.result run.0), listed_room e (c.requires.2 o) c.builder.ensures)

pub add_submodel-returns : goal.add_submodel-returns
unfolding place_as
add_submodel-returns t c = let a = c.args in
    let f = a.tables.now.names.file in
    let stmt = c.stmt in
    let run_of = c.run_of-run in
    let run = rw (c.nodes-nodes.ensures.0, c.nodes-nodes.ensures.1) at run_of.ensures in
    λ o. listed_then (submodel_found f.opened a.q c.requires.0.within 3 (sym c.requires.1) refl (λ j. errors_of (file_seen f) a.k j) o c.in-Some.c (rw c.requires.3 at c.in-Some.ensures) stmt.result stmt.ensures.0 run_of.result run.0) c.builder.ensures (rw (c.nodes-nodes.ensures.0, c.nodes-nodes.ensures.1) at c.order_errors.ensures)

pub builder-returns-then-k-eq0 : goal.builder-returns-then-k-eq0
builder-returns-then-k-eq0 t c = let a = c.args in
    let f = a.tables.now.names.file in
    rw (errors_none (file_seen f) a.k a.m c.if-k-eq0.true) (none_listed _)

pub builder-unknowns_errors-requires : goal.builder-unknowns_errors-requires
builder-unknowns_errors-requires t c = let a = c.args in
    let f = a.tables.now.names.file in
    (c.requires.0, room_first (errors_more (file_seen f) a.k a.m c.if-k-eq0.false) _ c.requires.2)

pub builder-loop-q-init : goal.builder-loop-q-init
builder-loop-q-init t c = let a = c.args in
    let f = a.tables.now.names.file in
    (0, omega arith, run_begins_lent (stmt_errors (file_seen f) (λ j. errors_of (file_seen f) (a.k - 1) j) (scope_seen f a.m)) (model_at (file_seen f) a.m).stmts _)

pub builder-stmt_errors-requires : goal.builder-stmt_errors-requires
builder-stmt_errors-requires t c = let a = c.args in
    let f = a.tables.now.names.file in
    let if1 = c.if-k-eq0 in
    let model = c.model-first in
    let model2 = c.model-stmts in
    let loop = c.loop-q in
    let inv = loop.invariant in
    let loop-test = c.loop-q-test in
    let there = stmt_there f.bytes.now f.sections f.opened a.m c.requires.0 model.result model2.result loop.q inv.0 inv.1 model.ensures.0 model2.ensures.0 loop-test.true in
    let here = stmt_here f.bytes.now f.sections f.opened a.m c.requires.0 model.result model2.result loop.q inv.0 inv.1 model.ensures.0 model2.ensures.0 loop-test.true in
    let room = listed_room (errors_more (file_seen f) a.k a.m if1.false) c.requires.2 c.unknowns_errors.ensures in
    (omega (arith, c.decreases, if1.false), (record { opened = f.opened; model = c.requires.0; vars = c.model_vars.ensures.0 }, record { within = stmts_below f.bytes.now f.sections f.opened a.m c.requires.0 model.result model2.result loop.q model.ensures.0 model2.ensures.0 loop-test.true; deep = omega (arith, c.requires.1) }, run_room_lent (stmt_errors (file_seen f) (λ j. errors_of (file_seen f) (a.k - 1) j) (scope_seen f a.m)) (model_at (file_seen f) a.m).stmts (stmt_in f.bytes.now f.sections loop.q) inv.0 there here room inv.2, c.requires.3))

pub builder-loop-q-preserved : goal.builder-loop-q-preserved
builder-loop-q-preserved t c = let a = c.args in
    let f = a.tables.now.names.file in
    let model = c.model-first in
    let model2 = c.model-stmts in
    let loop = c.loop-q in
    let inv = loop.invariant in
    let loop-test = c.loop-q-test in
    let there = stmt_there f.bytes.now f.sections f.opened a.m c.requires.0 model.result model2.result loop.q inv.0 inv.1 model.ensures.0 model2.ensures.0 loop-test.true in
    let here = stmt_here f.bytes.now f.sections f.opened a.m c.requires.0 model.result model2.result loop.q inv.0 inv.1 model.ensures.0 model2.ensures.0 loop-test.true in
    (inv.0 + 1, omega (arith, inv.1), run_goes_lent (stmt_errors (file_seen f) (λ j. errors_of (file_seen f) (a.k - 1) j) (scope_seen f a.m)) (model_at (file_seen f) a.m).stmts (stmt_in f.bytes.now f.sections loop.q) inv.0 there here inv.2 c.stmt_errors.ensures)

pub builder-returns : goal.builder-returns
builder-returns t c = let a = c.args in
    let f = a.tables.now.names.file in
    let model = c.model-first in
    let model2 = c.model-stmts in
    let loop = c.loop-q in
    let inv = loop.invariant in
    let ends = run_ends_lent (stmt_errors (file_seen f) (λ j. errors_of (file_seen f) (a.k - 1) j) (scope_seen f a.m)) (model_at (file_seen f) a.m).stmts inv.0 (stmts_past f.bytes.now f.sections f.opened a.m c.requires.0 model.result model2.result loop.q inv.0 inv.1 model.ensures.0 model2.ensures.0 c.loop-q-test.false) inv.2 in
    listed_then (errors_more (file_seen f) a.k a.m c.if-k-eq0.false) c.unknowns_errors.ensures ends

pub stmt_errors-own_errors-requires : goal.stmt_errors-own_errors-requires
stmt_errors-own_errors-requires t c = let a = c.args in
    let f = a.tables.now.names.file in
    let n = not_three f.opened a.place.stmt c.requires.1.within _ refl (eqb-false _ _ (sym c.is_stmt.ensures ∙ c.if-not-is_stmt.true)) in
    (c.requires.0, c.requires.1.within, n, rw (own_same f.opened a.place.stmt c.requires.1.within _ refl n (λ j. errors_of (file_seen f) a.place.depth j) (λ j. []) (scope_seen f a.place.model)) at c.requires.2)

pub stmt_errors-returns-then-not-is_stmt : goal.stmt_errors-returns-then-not-is_stmt
stmt_errors-returns-then-not-is_stmt t c = let a = c.args in
    let f = a.tables.now.names.file in
    rw (own_same f.opened a.place.stmt c.requires.1.within _ refl (not_three f.opened a.place.stmt c.requires.1.within _ refl (eqb-false _ _ (sym c.is_stmt.ensures ∙ c.if-not-is_stmt.true))) (λ j. errors_of (file_seen f) a.place.depth j) (λ j. []) (scope_seen f a.place.model)) c.own_errors.ensures

pub stmt_errors-add_submodel-requires : goal.stmt_errors-add_submodel-requires
stmt_errors-add_submodel-requires t c = let a = c.args in
    let f = a.tables.now.names.file in
    (omega (arith, c.decreases), (c.requires.1, eqb-true _ _ (sym c.is_stmt.ensures ∙ c.if-not-is_stmt.false), λ o. rw (any_scope f.opened a.place.stmt c.requires.1.within _ refl (eqb-true _ _ (sym c.is_stmt.ensures ∙ c.if-not-is_stmt.false)) (λ j. errors_of (file_seen f) a.place.depth j) o (scope_seen f a.place.model)) c.requires.2, c.requires.3))
