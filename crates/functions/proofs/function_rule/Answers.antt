use mathlib.Core.Path.{refl, ◌∙◌}
use Rattle.functions.specs.Lists.{text}
use Rattle.functions.specs.Rules.{rule_of, rule_in, table, row, one_argument, two_arguments}
use Rattle.functions.specs.Tables.{value_among}
use Rattle.functions.proofs.function_rule.Goals as goal

pub returns : goal.returns
unfolding rule_of rule_in table row one_argument two_arguments text value_among
returns c = c.value_of.ensures ∙ refl
