use mathlib.Core.Path.{sym, ◌∙◌}
use mathlib.Core.List.{[]}
use lib.ListN.{get_or-map}
use Rattle.ast.specs.Words.{word_of}
use Rattle.area.specs.Sections.{column}
use Rattle.area.specs.Views.{vars_seen}
use Rattle.area.proofs.records.Area.var.Goals as goal

pub returns : goal.returns
unfolding column word_of
returns c = let a = c.args in
    rw c.vars_at.ensures at c.record_word.ensures ∙ sym (get_or-map (λ r. word_of r a.k) (vars_seen a.self.now) a.v [])
