use native.Mathlib.Omega.{arith}
use Rattle.report.specs.Lines.{nowhere, place_as}
use Rattle.report.proofs.Written.{line_end, put_line}
use Rattle.report.proofs.lines.put_line.Goals as goal

pub returns : goal.returns
unfolding place_as nowhere
returns c = let a = c.args in
    let p = c.unwrap_or-place.result in
    let e₁ = c.put_field-second.ensures in
    let e₂ = c.put_field-third.ensures in
    let e₃ = c.put_field.ensures in
    rw (← c.unwrap_or-place.ensures) (
      line_end p a.kind a.at _ _ e₁.0 e₂.0 _ e₃.0,
      omega arith,
      put_line p a.kind a.at _ _ e₁.0 e₂.0 a.out.now _ _ _ (omega arith) e₁.2 e₂.2 e₃.2,
    )
