-- The check finds this alone; written, it has an edit of the counts refused at the count.
use native.Mathlib.Omega.{arith}
use Rattle.ast.proofs.Fronts.{lent_put}
use Rattle.area.proofs.header.put_counts.Goals as goal

pub returns : goal.returns
returns c = lent_put c.args.area.now _ _ 0 (omega arith) c.put_record.ensures
