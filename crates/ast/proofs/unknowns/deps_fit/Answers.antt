use mathlib.Core.Path.{refl}
use Prim.Native.Nat.{ℕ}
use borrow.Author.Rules.{rules}
use borrow.Author.Tests.{tests}
use lib.Dec.{ltb}
use lib.ListN.{take, drop, get_or}
use Rattle.ast.specs.Words.{words}
use Rattle.ast.proofs.Fields.{length_deps}
use Rattle.ast.proofs.Ranges.{all_places}
use Rattle.ast.proofs.unknowns.deps_fit.Goals as goal

pub returns : goal.returns
returns c = let a = c.args in
    let deps = take a.n (words (drop a.at a.f.now)) in
    all_places (λ (i : ℕ). ltb (get_or deps i 0) a.names) (λ (d : ℕ). ltb d a.names) 0 a.n deps (length_deps a.f.now a.at a.n c.requires) refl c.all.ensures.ran (λ i b q k. search (rules, tests)) (λ k. refl)
