use mathlib.Core.Path.{sym, ◌∙◌}
use Rattle.ast.specs.Opens.{file_in}
use Rattle.builder.specs.Root.{forbidden_as}
use Rattle.builder.proofs.laws.Measures.{forbids_cycle, forbids_self_listed, forbids_beyond, forbids_none}
use Rattle.builder.proofs.extent.measure.forbidden.Goals as goal

pub returns-then-cyclic : goal.returns-then-cyclic
unfolding forbidden_as
returns-then-cyclic c = forbids_cycle (file_in c.args.source.now.file.bytes.now c.args.source.now.file.sections) c.args.m (sym c.cyclic.ensures ∙ c.if-cyclic.true)

pub returns-then-self_listed : goal.returns-then-self_listed
unfolding forbidden_as
returns-then-self_listed c = forbids_self_listed (file_in c.args.source.now.file.bytes.now c.args.source.now.file.sections) c.args.m (sym c.cyclic.ensures ∙ c.if-cyclic.false) (sym (rw c.names.ensures at c.self_listed.ensures) ∙ c.if-self_listed.true)

pub returns-then-overfull : goal.returns-then-overfull
unfolding forbidden_as
returns-then-overfull c = forbids_beyond (file_in c.args.source.now.file.bytes.now c.args.source.now.file.sections) c.args.m (sym c.cyclic.ensures ∙ c.if-cyclic.false) (sym (rw c.names.ensures at c.self_listed.ensures) ∙ c.if-self_listed.false) (sym (rw c.calls-calls.ensures at c.overfull.ensures) ∙ c.if-overfull.true)

pub returns : goal.returns
unfolding forbidden_as
returns c = forbids_none (file_in c.args.source.now.file.bytes.now c.args.source.now.file.sections) c.args.m (sym c.cyclic.ensures ∙ c.if-cyclic.false) (sym (rw c.names.ensures at c.self_listed.ensures) ∙ c.if-self_listed.false) (sym (rw c.calls-calls.ensures at c.overfull.ensures) ∙ c.if-overfull.false)
