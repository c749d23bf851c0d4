use mathlib.Core.Path.{refl, sym}
use native.Mathlib.Omega.{arith}
use borrow.Author.Rules.{rules}
use borrow.Author.Tests.{tests}
use lib.Dec.{eqb}
use Rattle.ast.specs.Opens.{file_in}
use Rattle.ast.specs.Words.{word_of}
use Rattle.definitions.specs.Flatten.{model_named, model_at, no_model}
use Rattle.builder.proofs.laws.Open.{model_record, models_long}
use Rattle.builder.proofs.laws.Finding.{is_named, named_test}
use Rattle.builder.proofs.laws.Ranges.{first_over}
use Rattle.builder.proofs.models.called.find_model.Goals as goal

pub returns : goal.returns
unfolding model_named model_at
returns c = let a = c.args in
    let long = models_long a.file.now.bytes.now a.file.now.sections in
    first_over (λ m. eqb a.name (word_of (model_record a.file.now.bytes.now a.file.now.sections m) 0)) (is_named a.file.now.bytes.now a.file.now.sections a.name) no_model a.file.now.sections.counts.models (file_in a.file.now.bytes.now a.file.now.sections).models (omega arith) refl c.position.ensures.ran (λ m b q k. search (rules, tests))
    (λ m l. sym (named_test a.file.now.bytes.now a.file.now.sections a.name m (omega arith)))
