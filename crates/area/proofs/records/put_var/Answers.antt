use Rattle.area.proofs.VarsWritten.{var_written}
use native.Mathlib.Omega.{arith}
use Rattle.area.proofs.records.put_var.Goals as goal

pub returns : goal.returns
returns c = let a = c.args in
    let p = c.requires in
    var_written a.z a.area.now _ a.v a.k a.word _ p.1 p.2 p.3 (omega (arith, c.vars_at.ensures)) c.put_word.ensures
