use mathlib.Core.Path.{sym, ◌∙◌}
use Rattle.functions.proofs.Table.{among_found, among_next, among_end}
use Rattle.functions.proofs.value_of.Goals as goal

pub returns-then-same_bytes : goal.returns-then-same_bytes
returns-then-same_bytes t c = let l = c.loop-known in
    among_found _ _ l.known-index _ _ c.loop-known-item.is _ _ l.invariant c.loop-known-test.true c.same_bytes.ensures c.if-same_bytes.true

pub loop-known-preserved : goal.loop-known-preserved
loop-known-preserved t c = let l = c.loop-known in
    among_next _ _ l.known-index _ _ c.loop-known-item.is _ _ l.invariant c.loop-known-test.true c.same_bytes.ensures c.if-same_bytes.false

pub returns : goal.returns
returns t c = let l = c.loop-known in sym (l.invariant ∙ among_end _ _ l.known-index _ c.loop-known-test.false)
