use native.Mathlib.Omega.{arith}
use Rattle.std.proofs.lemmas.List.{get_or_default}
use Rattle.positions.proofs.Entries.{seen_more, seen_all}
use Rattle.positions.proofs.tables.begin.Goals as goal

pub loop-entry-preserved : goal.loop-entry-preserved
loop-entry-preserved c = let p = c.loop-entry in
    seen_more _ _ p.entries p.entry-index _ (omega arith) p.invariant (get_or_default p.entries p.entry-index _ _ (omega arith)) _ c.first-entry.ensures

pub returns : goal.returns
returns c = seen_all _ _ _ c.loop-entry.entry-index (omega arith) c.loop-entry.invariant
