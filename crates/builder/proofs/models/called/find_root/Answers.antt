use mathlib.Core.Path.{refl, sym}
use Prim.Native.Nat.{ℕ, ◌<◌}
use native.Mathlib.Omega.{arith}
use borrow.Author.Rules.{rules}
use borrow.Author.Tests.{tests}
use Rattle.std.proofs.iter.Serving.{serving}
use Rattle.functions.specs.Lists.{same_text}
use Rattle.ast.specs.Opens.{file_in}
use Rattle.ast.specs.Words.{word_of}
use Rattle.definitions.specs.Build.{root_of}
use Rattle.definitions.specs.Flatten.{model_at, no_model}
use Rattle.definitions.specs.Names.{text_of}
use Rattle.builder.proofs.laws.Open.{model_record, models_long}
use Rattle.builder.proofs.laws.OpenRecords.{model_is}
use Rattle.builder.proofs.laws.Finding.{is_root_name, root_test}
use Rattle.builder.proofs.laws.Ranges.{first_over}
use Rattle.builder.proofs.models.called.find_root.Goals as goal

pub position-requires-clause-callable : goal.position-requires-clause-callable
position-requires-clause-callable c = let a = c.args in
    let below : (m : ℕ) → m < a.file.now.sections.counts.models → word_of (model_record a.file.now.bytes.now a.file.now.sections m) 0 < a.file.now.sections.counts.names = λ m l. (model_is a.file.now.bytes.now a.file.now.sections c.args.file.now.opened m l).name_below in
    grind (serving, below)

pub returns : goal.returns
unfolding root_of model_at text_of
returns c = let a = c.args in
    let long = models_long a.file.now.bytes.now a.file.now.sections in
    first_over (λ m. same_text a.root.now (text_of (file_in a.file.now.bytes.now a.file.now.sections).names (word_of (model_record a.file.now.bytes.now a.file.now.sections m) 0))) (is_root_name a.file.now.bytes.now a.file.now.sections a.root.now) no_model a.file.now.sections.counts.models (file_in a.file.now.bytes.now a.file.now.sections).models (omega arith) refl
    c.position.ensures.ran (λ m b q k. search (rules, tests)) (λ m l. sym (root_test a.file.now.bytes.now a.file.now.sections a.root.now m (omega arith)))
