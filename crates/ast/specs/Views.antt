-- What a view shows: of an open file its records, and what they say; of nodes and records by place these.
use Rattle.std.specs.Prelude.{List, ℕ}
use Rattle.ast.specs.Tree as tree
use Rattle.ast.specs.File as file
use Rattle.ast.specs.Opens.{contents_in, file_in}
use Rattle.ast.specs.NodesIn.{nodes_in}
use Rattle.ast.specs.RecordsIn.{records_in, record_in}
use Rattle.ast.specs.NamesIn.{text_in, texts_in}
use Rattle.ast.specs.declared.places.Names.{Names}
use Rattle.ast.specs.declared.view.View.{View}
use Rattle.ast.specs.declared.places.NodeView.{NodeView}
use Rattle.ast.specs.declared.places.RecordView.{RecordView}

abbrev pub contents_seen : View → file.Contents
contents_seen v = contents_in v.bytes.now v.sections

abbrev pub file_seen : View → tree.File
file_seen v = file_in v.bytes.now v.sections

abbrev pub nodes_seen : NodeView → List (List ℕ)
nodes_seen v = nodes_in v.nodes v.bytes.now

abbrev pub records_seen : RecordView → List (List ℕ)
records_seen v = records_in v.records v.bytes.now

abbrev pub record_seen : RecordView → ℕ → List ℕ
record_seen v i = record_in v.records v.bytes.now i

abbrev pub name_seen : Names → ℕ → List ℕ
name_seen v i = text_in v.section.bytes.now v.section.at v.section.count v.size i

abbrev pub names_seen : Names → List (List ℕ)
names_seen v = texts_in v.section.bytes.now v.section.at v.section.count v.size
