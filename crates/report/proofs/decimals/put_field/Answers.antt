use Prim.Native.Nat.{◌+◌, ◌-◌, ◌≤◌}
use native.Mathlib.Omega.{arith}
use mathlib.Core.Path.{ap}
use borrow.Rule.Slice.PartMut.{put_mid}
use Rattle.report.specs.Decimals.{most_digits}
use Rattle.report.proofs.Digits.{few_digits}
use Rattle.report.proofs.Fields.{field_end, put_field}
use Rattle.report.proofs.decimals.put_field.Goals as goal

pub returns : goal.returns
returns c = let a = c.args in
    let e = c.decimal-k.ensures in
    let k = c.decimal-k.result in
    let xs = c.decimal-k.new.out in
    let few : k ≤ most_digits = few_digits a.n k (omega arith) e.len in (
      field_end a.n k xs e.in_bounds e.len e.digits few a.at a.behind,
      omega arith,
      put_field a.n k xs e.in_bounds e.len e.digits few a.out.now _ a.at a.behind (omega arith) (ap (put_mid a.at (a.at + k - a.at) a.out.now) c.copy_from_slice.ensures.after),
    )
