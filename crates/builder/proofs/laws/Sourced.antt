-- What a source, the classes of a file's names, and what an expression is checked against, bring with them, in the records that laws ask for.
use Prim.Native.Nat.{ℕ, ◌<◌}
use Rattle.definitions.specs.Flatten.{scope_of}
use Rattle.builder.specs.Checking.{UnknownIn, Against}
use Rattle.builder.specs.declared.source.Source.{Source}
use Rattle.builder.specs.declared.source.Classed.{Classed}
use Rattle.builder.specs.declared.errors.checked.Checked.{Checked}

pub unknown : (src : Source) (u : ℕ) → u < src.file.sections.counts.unknowns → UnknownIn src.file.bytes.now src.file.sections src.classes u
unknown src u h = record { opened = src.file.opened; classes = src.classed; within = h }

-- the same of the half with the classes
pub unknown_classed : (names : Classed) (u : ℕ) → u < names.file.sections.counts.unknowns → UnknownIn names.file.bytes.now names.file.sections names.classes.now u
unknown_classed names u h = record { opened = names.file.opened; classes = names.classed; within = h }

pub against : (c : Checked) → Against c.tables.now.names.file.bytes.now c.tables.now.names.file.sections c.model c.tables.now.names.classes.now c.tables.now.rules.now c.vars.now
unfolding scope_of
against c = record { scoped = c.scoped; classes = c.tables.now.names.classed; rules = c.tables.now.ruled }
