use Rattle.ast.specs.Opens.{contents_in, file_in}
use Rattle.builder.proofs.laws.Open.{models_long}
use Rattle.builder.proofs.laws.Measures.{over_instances, over_flat, sized}
use Rattle.builder.proofs.laws.FlatsLaid.{rows_still}
use Rattle.builder.proofs.extent.measure.size.Goals as goal

pub returns-then-i-gt-MOST_INSTANCES : goal.returns-then-i-gt-MOST_INSTANCES
returns-then-i-gt-MOST_INSTANCES c = let a = c.args in
    let p = c.requires in
    (over_instances (file_in a.source.now.file.bytes.now a.source.now.file.sections) a.m a.source.now.file.sections.counts.models (models_long a.source.now.file.bytes.now a.source.now.file.sections) _ (rw c.calls-calls.ensures at c.instances-i.ensures) c.if-i-gt-MOST_INSTANCES.true, p.1)

pub returns-then-flat : goal.returns-then-flat
returns-then-flat c = let a = c.args in
    let p = c.requires in
    let flat-extent = c.flat_extent-flat in
    (over_flat (file_in a.source.now.file.bytes.now a.source.now.file.sections) a.m a.source.now.file.sections.counts.models (models_long a.source.now.file.bytes.now a.source.now.file.sections) _ (rw c.calls-calls.ensures at c.instances-i.ensures) (contents_in a.source.now.file.bytes.now a.source.now.file.sections).nodes a.rows.now _ (rw c.calls-calls.ensures at flat-extent.ensures.0) c.if-flat.true, rows_still a.source.now.file.bytes.now a.source.now.file.sections a.rows.now a.m _ p.1 (rw c.calls-calls.ensures at flat-extent.ensures.1))

pub returns : goal.returns
returns c = let a = c.args in
    let p = c.requires in
    let flat-extent = c.flat_extent-flat in
    (sized (file_in a.source.now.file.bytes.now a.source.now.file.sections) a.m a.source.now.file.sections.counts.models (models_long a.source.now.file.bytes.now a.source.now.file.sections) _ (rw c.calls-calls.ensures at c.instances-i.ensures) (contents_in a.source.now.file.bytes.now a.source.now.file.sections).nodes a.rows.now _ (rw c.calls-calls.ensures at flat-extent.ensures.0) c.if-i-gt-MOST_INSTANCES.false c.if-flat.false, rows_still a.source.now.file.bytes.now a.source.now.file.sections a.rows.now a.m _ p.1 (rw c.calls-calls.ensures at flat-extent.ensures.1))
