use mathlib.Core.Path.{refl}
use native.Mathlib.Omega.{arith}
use Rattle.builder.proofs.laws.RootFinish.{errors_needs, copy_needs, header_needs, finished}
use Rattle.builder.proofs.laws.RootWritten.{room}
use Rattle.builder.proofs.laws.StartingLaws.{lists_length}
use Rattle.builder.proofs.answer.finish.Goals as goal

pub all_errors-count-requires : goal.all_errors-count-requires
all_errors-count-requires c = let p = c.requires in
    (errors_needs p.0 p.1, omega (arith, c.no_errors-errors.ensures))

pub put_errors-requires : goal.put_errors-requires
put_errors-requires c = let p = c.requires in
    let k = copy_needs p.0 p.2.0 p.2.1 _ _ refl p.1 c.all_errors-count.ensures in
    let l = lists_length _ _ _ _ _ (omega (arith, c.no_errors-errors.ensures)) c.all_errors-count.ensures in
    (k.0, k.1, omega (arith, l, c.no_errors-errors.ensures))

pub write_header-requires : goal.write_header-requires
write_header-requires c = let p = c.requires in
    header_needs p.0 p.2.0 p.2.1 _ _ refl p.1 c.all_errors-count.ensures c.put_errors.ensures

pub errors_at-requires : goal.errors_at-requires
errors_at-requires c = c.requires.0.known.sizes.small

pub overflow_add-result : goal.overflow_add-result
overflow_add-result c = omega (arith, c.errors_at.ensures, c.errors_length.ensures.1, room _ _ _ c.requires.0.known.sizes)

pub returns : goal.returns
returns c = let p = c.requires in
    finished p.0 p.2.0 p.2.1 _ _ refl p.1 c.all_errors-count.ensures c.put_errors.ensures c.write_header.ensures (omega (arith, c.errors_at.ensures, c.errors_length.ensures.0))
