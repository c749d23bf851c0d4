use native.Mathlib.Omega.{arith}
use Rattle.ast.proofs.Fronts.{lent_put}
use Rattle.builder.proofs.laws.KindWords.{kind_word}
use Rattle.builder.proofs.flattening.statements.record_at.Goals as goal

pub returns : goal.returns
returns c = let a = c.args in
    rw (← kind_word a.kind) (lent_put a.out.now _ _ a.at (omega (arith, c.requires)) c.put_record.ensures)
