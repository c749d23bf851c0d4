-- Every example, computed: the twelve marked P, our own, and areas that keep their layout or break it in one thing.
use lib.Dec.{T}
use Rattle.functions.specs.Lists.{all}
use Rattle.definitions.specs.Models.{meets}
use Rattle.definitions.specs.Examples.{table, examples}
use Rattle.definitions.specs.OwnExamples.{own_table, own_examples}
use Rattle.definitions.specs.LayoutExamples.{layout_table, layout_examples}

pub all_examples : T (all meets table) × T (all meets own_table) × T (all (λ b. b) layout_table)
all_examples = (examples, own_examples, layout_examples)
