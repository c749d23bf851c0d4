use mathlib.Core.Path.{refl, ap, ◌∙◌}
use Rattle.functions.specs.Lists.{text}
use Rattle.builder.specs.declared.names.Class.TheVariants.{Other}
use Rattle.builder.specs.Tables.{class_of, class_number, deciding}
use Rattle.builder.proofs.laws.Classes.{numbered, class_among}
use Rattle.builder.proofs.names.class_of.Goals as goal

pub returns : goal.returns
unfolding class_of deciding text numbered
returns c = ap class_number c.value_of.ensures ∙ class_among c.args.name.now Other 0 _ refl
