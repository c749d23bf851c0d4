use mathlib.Core.Path.{refl, ◌∙◌}
use native.Mathlib.Omega.{arith}
use Rattle.ast.proofs.Fronts.{lent_put}
use Rattle.area.proofs.lent.put_errors.Goals as goal

pub returns : goal.returns
returns c = let a = c.args in
    let p = c.requires in
    let e = c.errors_at-at.ensures in
    let n = c.errors_length.ensures.0 in
    lent_put a.area.now _ _ c.errors_at-at.result (omega (arith, e, p.1)) c.copy.ensures
    ∙ rw (e, n) refl
