use mathlib.Core.Path.{sym, ap, ◌∙◌}
use native.Mathlib.Omega.{arith}
use Rattle.definitions.specs.Check.{has_keyword}
use Rattle.builder.proofs.laws.Checks.{args_end, arg_last, arg_within, args_rest, args_fewer, has_keyword_here, has_keyword_before}
use Rattle.builder.proofs.errors.check.+has_keyword.Goals as goal

pub returns-then-run-eq0 : goal.returns-then-run-eq0
unfolding has_keyword
returns-then-run-eq0 t c = ap has_keyword (sym (args_end c.requires.1 c.if-run-eq0.true))

pub overflow_sub-run : goal.overflow_sub-run
overflow_sub-run t c = let l = arg_last c.requires.1 c.if-run-eq0.false in
    omega (arith, l.two)

pub word-requires : goal.word-requires
word-requires t c = (arg_within c.requires.1 c.if-run-eq0.false, omega arith)

pub returns-then-word-ne0 : goal.returns-then-word-ne0
returns-then-word-ne0 t c = let node_word = c.word in
    sym (has_keyword_here c.requires.1 c.if-run-eq0.false node_word.result node_word.ensures.0 c.if-word-ne0.true)

pub has_keyword-requires : goal.has_keyword-requires
has_keyword-requires t c = let if1 = c.if-run-eq0 in
    let before_last = c.before_last in
    let z = before_last.result in
    let e = before_last.ensures in
    (omega (arith, c.decreases, args_fewer c.requires.1 if1.false z e), (c.requires.0, args_rest c.requires.1 if1.false z e))

pub returns : goal.returns
returns t c = let if1 = c.if-run-eq0 in
    let node_word = c.word in
    let before_last = c.before_last in
    c.has_keyword.ensures ∙ sym (has_keyword_before c.requires.1 if1.false before_last.result before_last.ensures node_word.result node_word.ensures.0 c.if-word-ne0.false)
