use mathlib.Core.Path.{refl}
use Rattle.builder.proofs.laws.Replacing.{none_at}
use Rattle.builder.proofs.models.scope.no_marks.Goals as goal

pub returns : goal.returns
returns c = record { long = refl; zeros = λ n. none_at 256 n }
