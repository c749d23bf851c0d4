use mathlib.Core.Path.{◌∙◌}
use native.Mathlib.Omega.{arith}
use Rattle.ast.proofs.Fronts.{lent_put}
use Rattle.builder.specs.VarRecords.{lead_words}
use Rattle.builder.proofs.laws.Flags.{flag_byte}
use Rattle.builder.proofs.variables.records.put_lead.Goals as goal

pub returns : goal.returns
unfolding lead_words
returns c = let a = c.args in
    let e = lent_put a.area.now _ _ a.at (omega arith) c.put_record.ensures in
    rw (c.from-timed.ensures ∙ flag_byte _, c.from-state.ensures ∙ flag_byte _) at e
