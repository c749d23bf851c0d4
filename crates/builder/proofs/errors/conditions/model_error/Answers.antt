use mathlib.Core.Path.{refl}
use Rattle.ast.specs.Words.{span_from}
use Rattle.builder.proofs.laws.StartingLaws.{model_span}
use Rattle.builder.proofs.errors.conditions.model_error.Goals as goal

pub returns : goal.returns
unfolding span_from
returns c = let p = c.requires in
    rw (model_span _ _ c.args.file.now.opened _ p, c.model-from.ensures.0, c.model-to.ensures.0) refl
