-- What an area that is read shows: the records of each section.
use Rattle.std.specs.Prelude.{ℕ, List}
use Rattle.area.specs.Sections.{area_nodes, area_stmts, area_stmt, area_vars}
use Rattle.area.specs.declared.records.Area.{Area}

abbrev pub nodes_seen : Area → List (List ℕ)
nodes_seen a = area_nodes a.bytes.now a.sizes

abbrev pub stmts_seen : Area → List (List ℕ)
stmts_seen a = area_stmts a.bytes.now a.sizes

abbrev pub stmt_seen : Area → ℕ → List ℕ
stmt_seen a = area_stmt a.bytes.now a.sizes

abbrev pub vars_seen : Area → List (List ℕ)
vars_seen a = area_vars a.bytes.now a.sizes
