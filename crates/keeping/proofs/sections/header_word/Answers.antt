use native.Mathlib.Omega.{arith}
use Rattle.ast.specs.Words.{records, section}
use Rattle.definitions.specs.Area.{header_in}
use Rattle.keeping.proofs.sections.header_word.Goals as goal

pub returns : goal.returns
unfolding section records header_in
returns c = (c.record_word.ensures, omega arith)
