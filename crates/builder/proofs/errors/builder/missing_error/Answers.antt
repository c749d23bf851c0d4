-- `builder::builder::missing_error` meets its contract: the span is the statement's, the name the call's.
use mathlib.Core.Path.{refl, sym}
use native.Mathlib.Omega.{arith}
use Rattle.ast.specs.Words.{span_from}
use Rattle.builder.proofs.laws.ModelErrors.{call_in, call_named}
use Rattle.builder.proofs.errors.builder.missing_error.Goals as goal

pub node-name-requires : goal.node-name-requires
node-name-requires c = let p = c.requires in
    let stmt3 = c.stmt in
    let q = call_in c.args.file.now.opened c.args.q p.0 3 (sym p.1) refl stmt3.result stmt3.ensures.0 in
    (q.within, omega arith)

pub overflow_cast-word : goal.overflow_cast-word
overflow_cast-word c = let p = c.requires in
    let a = c.args in
    let stmt3 = c.stmt in
    omega (arith, c.node-name.ensures.0, call_named c.args.file.now.opened a.q p.0 3 (sym p.1) refl stmt3.result stmt3.ensures.0)

pub returns : goal.returns
unfolding span_from
returns c = rw (c.stmt-from.ensures.0, c.stmt-to.ensures.0, c.node-name.ensures.0, c.stmt.ensures.0) refl
