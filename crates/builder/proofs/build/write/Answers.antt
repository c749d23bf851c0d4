use mathlib.Core.Path.{◌≡◌, refl, ◌∙◌}
use Prim.Native.Nat.{◌≤◌}
use native.Mathlib.Omega.{arith}
use lib.ListN.{length}
use lib.Seq.{length-take-le, take-append-le}
use Rattle.builder.specs.Root.{used_in}
use Rattle.std.proofs.lemmas.Result.{err_from_is_err_and}
use Rattle.ast.proofs.Passed.{opens_file}
use Rattle.builder.specs.declared.refusal.Refused.TheVariants.{File, Model}
use Rattle.builder.proofs.laws.Answers.{stands_refused, built_refused, built_none, built_at, found_below, none_found, model_refused, stands_used}
use Rattle.builder.proofs.build.write.Goals as goal

pub returns-in_err-sections : goal.returns-in_err-sections
returns-in_err-sections c = let a = c.args in
    let q = err_from_is_err_and c.from_residual.result c.from_residual.ensures.1 in
    rw (q.1, q.2) (stands_refused _ (File _) _ (built_refused a.file.now a.root.now _ _ _ c.in_err-sections.ensures))

pub invariant_of-file : goal.invariant_of-file
invariant_of-file c = record { opened = (opens_file _ _ _ _ c.in_ok-sections.ensures _ refl).0 }

pub returns-in_err-m : goal.returns-in_err-m
returns-in_err-m c = let a = c.args in
    let e = c.in_err-m.ensures in
    let q = err_from_is_err_and c.from_residual-in_err-m.result c.from_residual-in_err-m.ensures.1 in
    let n = built_none a.file.now a.root.now _ _ _ c.in_ok-sections.ensures _ c.find_root.ensures e.ok_part in
    rw (q.1, q.2, none_found _ _ e.ok_part e.value) (stands_refused _ (Model _) _ n)

pub answer_apart-requires : goal.answer_apart-requires
answer_apart-requires c = let a = c.args in
    found_below a.file.now a.root.now 0 _ _ c.in_ok-sections.ensures _ c.find_root.ensures _ c.in_ok-m.ensures.ok_part

pub returns-then-area-lt-MOST_BYTES : goal.returns-then-area-lt-MOST_BYTES
returns-then-area-lt-MOST_BYTES c = let a = c.args in
    rw (built_at a.file.now a.root.now _ _ _ c.in_ok-sections.ensures _ c.find_root.ensures _ c.in_ok-m.ensures.ok_part) c.answer_apart.ensures

pub answer_in-requires : goal.answer_in-requires
answer_in-requires c = let a = c.args in
    let m = found_below a.file.now a.root.now 0 _ _ c.in_ok-sections.ensures _ c.find_root.ensures _ c.in_ok-m.ensures.ok_part in
    (m, length-take-le 55384 a.area.now c.if-area-lt-MOST_BYTES.false)

pub returns-in_err-used : goal.returns-in_err-used
returns-in_err-used c = let a = c.args in
    let q = err_from_is_err_and c.from_residual-in_err-used.result c.from_residual-in_err-used.ensures.1 in
    let b = built_at a.file.now a.root.now (length a.area.now) _ _ c.in_ok-sections.ensures _ c.find_root.ensures _ c.in_ok-m.ensures.ok_part in
    rw (q.1, q.2, b) (stands_refused _ (Model _) _ (model_refused _ _ _ _ c.in_err-used.ensures.0))

pub returns : goal.returns
unfolding used_in
returns c = let a = c.args in
    let e = c.in_ok-used.ensures in
    let n = c.in_ok-used.used in
    let own = c.answer_in.new.area in
    let room : 55384 ≤ length a.area.now = c.if-area-lt-MOST_BYTES.false in
    let few : n ≤ 55384 = e.1 in
    let long : length own ≡ 55384 = c.answer_in.auto.area ∙ length-take-le 55384 a.area.now room in
    let b = built_at a.file.now a.root.now (length a.area.now) _ _ c.in_ok-sections.ensures _ c.find_root.ensures _ c.in_ok-m.ensures.ok_part in
    rw b (stands_used _ n own _ _ e.0 few long (omega (arith, few, room)) (omega (arith, long, room)) (take-append-le n own _ (omega (arith, few, long))))
