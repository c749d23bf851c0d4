-- The sections of an area by place.
use Rattle.std.specs.Prelude.{ℕ, ◌≤◌, List, length}
use Rattle.ast.specs.RecordsIn.{RecordsLie}
use Rattle.ast.specs.declared.sections.Records.{Records}
use Rattle.definitions.specs.Numbers.{most_nodes, most_stmts, most_variables, most_deps, stmt_length, dep_length, error_length}
use Rattle.definitions.specs.Area.{nodes_in, stmts_in, vars_in, deps_in, listed_in}
use Rattle.definitions.specs.Layout.{Layout, plain, nodes_at, stmts_at, vars_at, deps_at, errors_at, end_at}
use Rattle.area.specs.Fields.{lead_length}
use Rattle.keeping.specs.declared.sections.Sections.{Sections}

-- so many records of a width in words, from a byte on
abbrev pub placed : ℕ → ℕ → ℕ → Records
placed a w n = record { at = a; width = w; count = n }

-- Where the sections lie in an area with the header h, how many records each has, and the byte behind the last.
unfoldable pub sections_of : Layout → List ℕ → Sections
sections_of l h = record {
  nodes = record { at = nodes_at l h; count = nodes_in h };
  stmts = placed (stmts_at l h) stmt_length (stmts_in h);
  vars = placed (vars_at l h) l.variable_length (vars_in h);
  deps = placed (deps_at l h) dep_length (deps_in h);
  errors = placed (errors_at l h) error_length (listed_in h);
  end = end_at l h;
}

-- no count of the header h beyond its most
pub record Counted (h : List ℕ) : Type 0 where
  pub nodes : nodes_in h ≤ most_nodes
  pub stmts : stmts_in h ≤ most_stmts
  pub vars : vars_in h ≤ most_variables
  pub deps : deps_in h ≤ most_deps

-- records within the bytes, as long as those of an area's statements
pub record RowsLie (rs : Records) (b : List ℕ) : Type 0 where
  pub lie : RecordsLie rs b
  pub wide : stmt_length ≤ rs.width

-- records within the bytes, as long as those of variables in front of their bounds
pub record VarsLie (rs : Records) (b : List ℕ) : Type 0 where
  pub lie : RecordsLie rs b
  pub wide : lead_length ≤ rs.width

-- records within the bytes, as long as those of errors
pub record ErrorsLie (rs : Records) (b : List ℕ) : Type 0 where
  pub lie : RecordsLie rs b
  pub wide : error_length ≤ rs.width

-- an area b with the header h that has its sections
pub record Laid (h b : List ℕ) : Type 0 where
  pub counted : Counted h
  pub long : end_at plain h ≤ length b
