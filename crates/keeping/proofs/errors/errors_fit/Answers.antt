use mathlib.Core.Path.{refl}
use mathlib.Core.List.{[]}
use Prim.Native.Nat.{ℕ}
use borrow.Author.Rules.{rules}
use borrow.Author.Tests.{tests}
use Rattle.ast.specs.Views.{records_seen, record_seen}
use Rattle.ast.proofs.Fields.{length_section}
use Rattle.ast.proofs.Ranges.{all_places}
use Rattle.definitions.specs.Layout.{error_fits}
use Rattle.keeping.proofs.errors.errors_fit.Goals as goal

pub returns : goal.returns
returns c = let v = c.args.rs.now in
    let r = v.records in
    all_places (λ (i : ℕ). error_fits c.args.kinds (record_seen v i)) (error_fits c.args.kinds) [] r.count (records_seen v) (length_section r.width r.count r.at v.bytes.now) refl c.all.ensures.ran (λ i b q k. search (rules, tests)) (λ k. refl)
