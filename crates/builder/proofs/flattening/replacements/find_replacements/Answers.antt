use native.Mathlib.Omega.{arith}
use Prim.Native.Nat.{◌+◌, ◌*◌, ◌-◌}
use Rattle.builder.proofs.laws.Replacing.{row_lent}
use Rattle.builder.proofs.flattening.replacements.find_replacements.Goals as goal

pub returns : goal.returns
returns c = let a = c.args in
    let p = c.requires in
    row_lent _ _ a.rows.now a.level p.1.fit _ (256 * a.level + 256 - 256 * a.level) _ (omega (arith, p.1.long)) (omega arith) c.new_row.ensures
