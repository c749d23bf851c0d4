use mathlib.Core.Path.{refl}
use native.Mathlib.Omega.{arith}
use Rattle.builder.specs.VarRecords.{lead_words}
use Rattle.builder.proofs.laws.VarLaws.{lead_and_bounds}
use Rattle.builder.proofs.variables.records.put_variable.Goals as goal

pub returns : goal.returns
unfolding lead_words
returns c = let a = c.args in
    let put-lead = c.put_lead in
    lead_and_bounds a.area.now _ _ _ a.at _ refl (omega arith) put-lead.ensures c.put_var_bounds.ensures
