use mathlib.Core.Path.{refl, sym, ◌∙◌}
use Prim.Native.Nat.{◌-◌, ◌*◌}
use native.Mathlib.Omega.{arith}
use Rattle.builder.proofs.laws.PutWords.{below_none, below_one}
use Rattle.area.proofs.Puts.{words_none, put_first}
use Rattle.builder.proofs.variables.roster.put_dep.Goals as goal

pub returns-then-v-eq0 : goal.returns-then-v-eq0
returns-then-v-eq0 c = let a = c.args in
    let e = below_none a.v c.if-v-eq0.true in
    (rw e (omega arith), rw e (sym (words_none a.out.now (4 * a.done))))

pub put_word-requires : goal.put_word-requires
put_word-requires c = let e = below_one c.args.v c.if-v-eq0.false in
    omega (arith, rw e at c.requires)

pub returns : goal.returns
returns c = let a = c.args in
    let e = below_one a.v c.if-v-eq0.false in
    (rw e refl, rw e (c.put_word.ensures ∙ put_first a.out.now (4 * a.done) (a.v - 1) (omega (arith, rw e at c.requires))))
