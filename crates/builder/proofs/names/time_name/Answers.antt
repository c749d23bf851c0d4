use mathlib.Core.Path.{refl, sym, ap}
use mathlib.Core.List.{[]}
use native.Mathlib.Omega.{arith}
use borrow.Author.Rules.{rules}
use borrow.Author.Tests.{tests}
use lib.ListN.{get_or}
use Rattle.functions.specs.Lists.{text, same_text, plus_one}
use Rattle.ast.specs.Opens.{file_in}
use Rattle.definitions.specs.Names.{time_name}
use Rattle.builder.specs.declared.names.Class.TheVariants.{Time}
use Rattle.builder.specs.contracts.names.ClassPartialEq.TheImpl.{ghosts}
use Rattle.builder.proofs.laws.Open.{names_long}
use Rattle.builder.proofs.laws.ScopeTables.{time_test}
use Rattle.builder.proofs.laws.Ranges.{first_over}
use Rattle.builder.proofs.names.time_name.Goals as goal

pub returns : goal.returns
unfolding time_name
returns c = let a = c.args in
    let long = names_long a.names.now.file.bytes.now a.names.now.file.sections in
    ap plus_one (first_over (λ n. ghosts.eq (get_or a.names.now.classes.now n Time) Time) (same_text (text "t")) [] a.names.now.file.sections.counts.names (file_in a.names.now.file.bytes.now a.names.now.file.sections).names (omega arith) refl c.position.ensures.ran (λ n b q k. search (rules, tests))
    (λ n l. sym (time_test (file_in a.names.now.file.bytes.now a.names.now.file.sections).names a.names.now.classes.now a.names.now.classed n l)))
