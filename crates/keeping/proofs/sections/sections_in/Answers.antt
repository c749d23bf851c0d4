use mathlib.Core.Path.{refl}
use Rattle.definitions.specs.Layout.{nodes_at, stmts_at, vars_at, deps_at, errors_at, end_at}
use Rattle.keeping.specs.Placed.{sections_of}
use Rattle.keeping.proofs.sections.sections_in.Goals as goal

pub returns : goal.returns
unfolding sections_of end_at errors_at deps_at vars_at stmts_at nodes_at
returns c = rw (
  c.by_place.ensures,
  c.by_place-2.ensures,
  c.by_place-3.ensures,
  c.by_place-4.ensures,
  c.header_word-nodes.ensures.0,
  c.header_word-stmts.ensures.0,
  c.header_word-vars.ensures.0,
  c.header_word-deps.ensures.0,
  c.listed-errors.ensures,
)
    refl
