use mathlib.Core.Path.{◌∙◌}
use Rattle.builder.proofs.laws.Answers.{used_told, refused_told}
use Rattle.builder_c.proofs.build.Goals as goal

pub returns-in-Ok : goal.returns-in-Ok
returns-in-Ok c = let e = c.in-Ok.ensures in
    (used_told _ _ e.0, e.2)

pub returns-in-Err : goal.returns-in-Err
returns-in-Err c = let e = c.in-Err.ensures in
    (c.number.ensures ∙ refused_told _ _ e.0, e.2)
