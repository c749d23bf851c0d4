use mathlib.Core.Path.{refl, ap, ◌∙◌}
use mathlib.Core.List.{◌++◌}
use native.Mathlib.Omega.{arith}
use lib.Seq.{map-set_same}
use Rattle.std.proofs.lemmas.List.{get_or_default}
use Rattle.positions.specs.declared.Entry.{Entry}
use Rattle.positions.specs.Pieces.{placed}
use Rattle.positions.proofs.Entries.{starts_of, seen_more, seen_left, seen_all}
use Rattle.positions.proofs.tables.advance.Goals as goal

pub loop-entry-preserved : goal.loop-entry-preserved
loop-entry-preserved c = let a = c.args in
    let p = c.loop-entry in
    let i = p.entry-index in
    let is = get_or_default p.entries i _ _ (omega arith) in (
      map-set_same (λ (x : Entry). x.start) p.entries i _ _ refl ∙ p.invariant.0,
      λ t ss g h.
          let e = p.invariant.1 t ss g h in
          let l = c.loop-entry-test.true in
          seen_more _ _ p.entries i _ l e is _ (c.look-entry.ensures t g (seen_left _ _ p.entries i _ l e is t ss h)),
    )

pub returns : goal.returns
returns c = let p = c.loop-entry in
    record { starts = p.invariant.0; placed = λ t ss g h. seen_all _ _ _ p.entry-index (omega arith) (p.invariant.1 t ss g h) ∙ ap (placed (t ++ c.args.piece.now)) (starts_of t ss _ h) }
