use mathlib.Core.Path.{refl}
use Rattle.positions.proofs.Growing.{end_first}
use Rattle.positions.proofs.End.new.Goals as goal

pub returns : goal.returns
returns c = end_first _ refl refl refl
