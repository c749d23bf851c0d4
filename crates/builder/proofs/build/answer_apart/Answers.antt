use mathlib.Core.Path.{◌≡◌}
use Prim.Native.Nat.{◌≤◌}
use native.Mathlib.Omega.{arith}
use lib.ListN.{length}
use Rattle.std.proofs.lemmas.Result.{err_from_is_err_and}
use Rattle.builder.specs.Root.{used_in}
use Rattle.builder.specs.declared.refusal.Refused.TheVariants.{ShortArea, Model}
use Rattle.builder.proofs.laws.Answers.{stands_refused, model_refused, too_short, stands_used, copied}
use Rattle.builder.proofs.build.answer_apart.Goals as goal

pub returns-in_err-used : goal.returns-in_err-used
returns-in_err-used c = let q = err_from_is_err_and c.from_residual.result c.from_residual.ensures.1 in
    rw (q.1, q.2) (stands_refused _ (Model _) _ (model_refused _ _ _ _ c.in_err-used.ensures.0))

pub returns-then-area-used : goal.returns-then-area-used
unfolding used_in
returns-then-area-used c = let e = c.in_ok-used.ensures in
    stands_refused _ ShortArea _ (too_short _ _ _ c.args.area.now _ e.0 e.1 (omega arith) c.if-area-used.true)

pub copy-requires : goal.copy-requires
unfolding used_in
copy-requires c = let few : c.in_ok-used.used ≤ 55384 = c.in_ok-used.ensures.1 in
    (omega (arith, few), omega arith)

pub returns : goal.returns
unfolding used_in
returns c = let a = c.args in
    let e = c.in_ok-used.ensures in
    let n = c.in_ok-used.used in
    let own = c.answer_in.new.area in
    let few : n ≤ 55384 = e.1 in
    let long : length own ≡ 55384 = omega arith in
    stands_used _ n own _ _ e.0 few long c.if-area-used.false c.copy.auto.area (rw c.copy.ensures (copied a.area.now own n (omega (arith, few, long))))
