use mathlib.Core.Path.{◌≡◌, refl, sym, ◌∙◌}
use mathlib.Core.List.{[]}
use Prim.Native.Nat.{◌+◌}
use native.Mathlib.Omega.{arith}
use borrow.Author.Tests.{eqb-true, eqb-false}
use lib.ListN.{length, get_or}
use Rattle.ast.specs.Tree.{size}
use Rattle.ast.specs.Records.{kind_of_stmt}
use Rattle.ast.specs.Rows.{read}
use Rattle.ast.specs.Opens.{contents_in}
use Rattle.builder.proofs.laws.OpenStmts.{is_equation, equation_sides}
use Rattle.builder.proofs.laws.OpenRecords.{stmt_is}
use Rattle.builder.proofs.laws.Descents.{expr_at_lem}
use Rattle.builder.proofs.laws.Putting.{tree_long}
use Rattle.builder.proofs.laws.Writing.{OneFits, rate_room, equation_room, rate_written, equation_written}
use Rattle.builder.proofs.flattening.statements.write_own.Goals as goal
use Rattle.builder.proofs.flattening.statements.write_own.Goals.{Then-is_stmt, After-stmt}

-- ---- a rate, and its tree

is_rate : (c : Then-is_stmt) → kind_of_stmt (get_or (contents_in c.args.file.now.bytes.now c.args.file.now.sections).stmts c.args.q []) ≡ 2
is_rate c = eqb-true _ _ (sym c.is_stmt.ensures ∙ c.if-is_stmt.true)

rate_fits : (c : Then-is_stmt) → (let n = size (read (contents_in c.args.file.now.bytes.now c.args.file.now.sections).nodes c.args.rows.now c.args.level c.stmt-i.result) in OneFits c.args.done n n (length c.args.out.now))
rate_fits c = let a = c.args in
    let p = c.requires in
    rate_room a.file.now.bytes.now a.file.now.sections a.rows.now a.level a.q p.1.0 a.done (length a.out.now) p.1.1 _ (is_rate c) c.stmt-i.ensures.0

pub write_tree-b-requires : goal.write_tree-b-requires
write_tree-b-requires c = let a = c.args in
    let p = c.requires in
    let z = rate_fits (goal.at.write_tree-b-requires c).Then-is_stmt in
    (expr_at_lem a.file.now.bytes.now a.file.now.sections _ _ c.stmt-i.ensures.0 (stmt_is a.file.now.bytes.now a.file.now.sections p.0.opened a.q p.0.within).right, p.0.readable, record { few = z.1; fit = omega (arith, z.2, z.3) })

pub overflow_sub-r : goal.overflow_sub-r
overflow_sub-r c = let z = rate_fits (goal.at.overflow_sub-r c).Then-is_stmt in
    omega arith

pub overflow_cast-r : goal.overflow_cast-r
overflow_cast-r c = let z = rate_fits (goal.at.overflow_cast-r c).Then-is_stmt in
    omega arith

pub record_at-requires : goal.record_at-requires
record_at-requires c = let a = c.args in
    let z = rate_fits (goal.at.record_at-requires c).Then-is_stmt in
    omega (arith, z.3, tree_long a.out.now _ _ a.done.nodes c.write_tree-b.ensures.1 (omega (arith, z.2, z.3)))

pub returns-then-is_stmt : goal.returns-then-is_stmt
returns-then-is_stmt c = let a = c.args in
    let is_rate' = is_rate (goal.at.returns-then-is_stmt c).Then-is_stmt in
    λ sub. rate_written a.file.now.bytes.now a.file.now.sections a.rows.now a.level a.q sub a.done a.out.now _ _ _ _ _ _ refl refl c.stmt-from.ensures.0 c.stmt-to.ensures.0 _ _ is_rate' c.stmt-i.ensures.0 c.stmt-name.ensures.0 c.write_tree-b.ensures c.record_at.ensures

-- ---- an equation, and its two trees

an_equation : (c : After-stmt) → kind_of_stmt (get_or (contents_in c.args.file.now.bytes.now c.args.file.now.sections).stmts c.args.q []) ≡ 1
an_equation c = let a = c.args in
    let p = c.requires.0 in
    is_equation a.file.now.bytes.now a.file.now.sections p.opened a.q p.within (eqb-false _ _ (sym c.is_stmt.ensures ∙ c.if-is_stmt.false)) p.own

equation_fits : (c : After-stmt)
    → (let tree = read (contents_in c.args.file.now.bytes.now c.args.file.now.sections).nodes c.args.rows.now c.args.level in OneFits c.args.done (size (tree c.stmt.result)) (size (tree c.stmt.result) + size (tree c.stmt-i.result)) (length c.args.out.now))
equation_fits c = let a = c.args in
    let p = c.requires in
    equation_room a.file.now.bytes.now a.file.now.sections a.rows.now a.level a.q p.1.0 a.done (length a.out.now) p.1.1 _ _ (an_equation c) c.stmt.ensures.0 c.stmt-i.ensures.0

pub write_tree-a-requires : goal.write_tree-a-requires
write_tree-a-requires c = let a = c.args in
    let p = c.requires.0 in
    let v = (goal.at.write_tree-a-requires c).After-stmt in
    let z = equation_fits v in
    (expr_at_lem a.file.now.bytes.now a.file.now.sections _ _ c.stmt.ensures.0 (equation_sides a.file.now.bytes.now a.file.now.sections p.opened a.q p.within (an_equation v)).0, p.readable, record { few = omega (arith, z.1); fit = omega (arith, z.2, z.3) })

pub write_tree-b-requires-2 : goal.write_tree-b-requires-2
write_tree-b-requires-2 c = let a = c.args in
    let p = c.requires.0 in
    let v = (goal.at.write_tree-b-requires-2 c).After-stmt in
    let z = equation_fits v in
    let w = tree_long a.out.now _ _ a.done.nodes c.write_tree-a.ensures.1 (omega (arith, z.2, z.3)) in
    (expr_at_lem a.file.now.bytes.now a.file.now.sections _ _ c.stmt-i.ensures.0 (equation_sides a.file.now.bytes.now a.file.now.sections p.opened a.q p.within (an_equation v)).1, p.readable, record { few = omega (arith, z.1, c.write_tree-a.ensures.0); fit = omega (arith, z.2, z.3, w, c.write_tree-a.ensures.0) })

pub overflow_sub-l : goal.overflow_sub-l
overflow_sub-l c = let z = equation_fits (goal.at.overflow_sub-l c).After-stmt in
    omega arith

pub overflow_cast-l : goal.overflow_cast-l
overflow_cast-l c = let z = equation_fits (goal.at.overflow_cast-l c).After-stmt in
    omega arith

pub overflow_sub-r-2 : goal.overflow_sub-r-2
overflow_sub-r-2 c = let z = equation_fits (goal.at.overflow_sub-r-2 c).After-stmt in
    omega arith

pub overflow_cast-r-2 : goal.overflow_cast-r-2
overflow_cast-r-2 c = let z = equation_fits (goal.at.overflow_cast-r-2 c).After-stmt in
    omega arith

pub record_at-requires-2 : goal.record_at-requires-2
record_at-requires-2 c = let a = c.args in
    let z = equation_fits (goal.at.record_at-requires-2 c).After-stmt in
    let v = tree_long a.out.now _ _ a.done.nodes c.write_tree-a.ensures.1 (omega (arith, z.2, z.3)) in
    let w = tree_long _ _ _ c.write_tree-a.result c.write_tree-b-2.ensures.1 (omega (arith, z.2, z.3, v, c.write_tree-a.ensures.0)) in
    omega (arith, z.3, v, w)

pub returns : goal.returns
returns c = let a = c.args in
    let v = (goal.at.returns c).After-stmt in
    let z = equation_fits v in
    λ sub. equation_written a.file.now.bytes.now a.file.now.sections a.rows.now a.level a.q sub a.done a.out.now _ _ _ _ _ _ refl refl c.stmt-from.ensures.0 c.stmt-to.ensures.0 _ _ _ _ (an_equation v) c.stmt.ensures.0 c.stmt-i.ensures.0 (omega (arith, z.2, z.3)) c.write_tree-a.ensures c.write_tree-b-2.ensures c.record_at-2.ensures
