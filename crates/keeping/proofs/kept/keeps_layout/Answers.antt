use mathlib.Core.Path.{sym, ◌∙◌}
use native.Mathlib.Omega.{arith}
use Rattle.keeping.proofs.Begun.{counted, no_header, over_most_lem, too_short_lem, all_there, laid}
use Rattle.keeping.proofs.kept.keeps_layout.Goals as goal

pub returns-then-area-lt-HEADER_BYTES : goal.returns-then-area-lt-HEADER_BYTES
returns-then-area-lt-HEADER_BYTES c = no_header _ _ c.if-area-lt-HEADER_BYTES.true

pub returns-then-not-counts_fit : goal.returns-then-not-counts_fit
returns-then-not-counts_fit c = over_most_lem _ _ (sym c.counts_fit.ensures ∙ c.if-not-counts_fit.true)

pub sections_in-s-requires : goal.sections_in-s-requires
sections_in-s-requires c = (omega arith, counted _ (sym c.counts_fit.ensures ∙ c.if-not-counts_fit.false))

pub returns-then-area-end : goal.returns-then-area-end
returns-then-area-end c = too_short_lem _ _ c.sections_in-s.result (sym c.counts_fit.ensures ∙ c.if-not-counts_fit.false) c.sections_in-s.ensures c.if-area-end.true

pub records_fit-requires : goal.records_fit-requires
records_fit-requires c = let w = sym c.counts_fit.ensures ∙ c.if-not-counts_fit.false in
    (laid _ _ c.sections_in-s.result w c.sections_in-s.ensures c.if-area-end.false, c.sections_in-s.ensures)

pub returns : goal.returns
returns c = let w = sym c.counts_fit.ensures ∙ c.if-not-counts_fit.false in
    all_there _ _ c.sections_in-s.result w c.sections_in-s.ensures _ _ c.if-area-end.false c.all_zeros.ensures c.records_fit.ensures
