use Rattle.area.specs.Sections.{stmts_at, vars_at, deps_at}
use native.Mathlib.Omega.{arith}
use Rattle.builder.proofs.laws.FateRecords.{fate_put}
use Rattle.builder.proofs.laws.KindWords.{fate_word}
use borrow.Author.Rules.{rules}
use Rattle.builder.proofs.allocation.fates.put_fate.Goals as goal

pub overflow_add-at : goal.overflow_add-at
unfolding stmts_at vars_at deps_at
overflow_add-at c = search rules

pub overflow_add-at-2 : goal.overflow_add-at-2
unfolding stmts_at vars_at deps_at
overflow_add-at-2 c = search rules

pub put_word-requires : goal.put_word-requires
unfolding stmts_at vars_at deps_at
put_word-requires c = search rules

pub overflow_add-at-3 : goal.overflow_add-at-3
unfolding stmts_at vars_at deps_at
overflow_add-at-3 c = search rules

pub put_word-requires-2 : goal.put_word-requires-2
unfolding stmts_at vars_at deps_at
put_word-requires-2 c = search rules

pub returns : goal.returns
unfolding stmts_at vars_at deps_at
returns c = let a = c.args in
    let stmts_at_lem = c.stmts_at in
    rw (← fate_word a.fate) (fate_put a.z.stmts (stmts_at a.z) a.i a.area.now _ _ _ _ _ a.v (omega arith) (omega arith) (λ j. omega (arith, c.slice_known-1.given j)) (omega (arith, stmts_at_lem.ensures)) (omega (arith, stmts_at_lem.ensures)) c.put_word.ensures c.put_word-2.ensures)
