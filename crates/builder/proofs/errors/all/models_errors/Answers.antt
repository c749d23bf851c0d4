use mathlib.Core.Path.{refl}
use Rattle.builder.proofs.laws.Open.{models_long}
use Rattle.builder.proofs.errors.all.models_errors.Goals as goal

pub invariant_of-tables : goal.invariant_of-tables
invariant_of-tables c = rw c.names.ensures (record { ruled = c.rules-table.ensures })

pub builder-requires : goal.builder-requires
builder-requires c = let p = c.requires in
    rw c.names.ensures (p.0, c.args.source.now.file.opened.laid.within.models, rw (models_long _ _) at p.1, c.calls.ensures)

pub returns : goal.returns
returns c = rw (models_long _ _) (rw c.names.ensures at c.builder.ensures)
