-- What descents over a model's flattened statements read at a level of the rows: f is an open file and s its sections.
use Rattle.std.specs.Prelude.{ℕ, ◌+◌, ◌-◌, ◌*◌, ◌≤◌, ◌<◌, ◌≡◌, true, List, [], map, length, take, get_or}
use Rattle.ast.specs.Tree.{Flat}
use Rattle.ast.specs.Subst.{Replacements}
use Rattle.ast.specs.Nodes.{kind_at, op_at, size_at, is_expr, args_before}
use Rattle.ast.specs.NodesIn.{node_bytes}
use Rattle.ast.specs.Records.{kind_of_stmt, stmt_of}
use Rattle.ast.specs.Levels.{through_flat}
use Rattle.ast.specs.Rows.{levels_of, RowsFit}
use Rattle.ast.specs.Opens.{Open, contents_in, file_in}
use Rattle.ast.specs.declared.sections.Sections.{Sections}
use Rattle.definitions.specs.Numbers.{most_names, most_nodes, most_models, call_kind, argument_kind, submodel_kind}
use Rattle.definitions.specs.Flatten.{replacements, model_at, stmt_flats, flatten}

module _ (f : List ℕ) (s : Sections) where
  -- The flattened statements of model m to a depth of k models, their names replaced by the rows below a level.
  abbrev pub flat_at : List ℕ → ℕ → ℕ → ℕ → List Flat
  flat_at rows level k m = map (through_flat (levels_of (contents_in f s).nodes rows level)) (flatten (file_in f s) k m)

  -- What statement q of the file brings in, likewise; `sub` gives a model's flattened statements.
  abbrev pub brought_at : List ℕ → ℕ → (ℕ → List Flat) → ℕ → List Flat
  brought_at rows level sub q = map (through_flat (levels_of (contents_in f s).nodes rows level)) (stmt_flats (file_in f s) sub (stmt_of (contents_in f s).nodes (get_or (contents_in f s).stmts q [])))

  -- What the arguments of a call, node number `call`, replace in model m.
  abbrev pub replaced_by : ℕ → ℕ → Replacements
  replaced_by m call = replacements (model_at (file_in f s) m).unknowns (args_before (contents_in f s).nodes call (op_at (contents_in f s).nodes call) (size_at (contents_in f s).nodes call - 1))

  -- What replaces is an expression of the file, and only names of the file are replaced.
  pub record RowsIn (rows : List ℕ) : Type 0 where
    pub fit : RowsFit (contents_in f s).nodes s.counts.nodes rows
    pub bare : (level j : ℕ) → s.counts.names ≤ j → j < most_names → get_or rows (most_names * level + j) 0 ≡ 0

  -- There is a row for every level below this one.
  pub record RowsAt (rows : List ℕ) (level : ℕ) : Type 0 where
    pub deep : level ≤ most_models
    pub long : most_names * level ≤ length rows
    pub fit : RowsIn rows

  -- A row by itself.
  pub record RowIn (row : List ℕ) : Type 0 where
    pub long : length row ≡ most_names
    pub fit : RowsIn row

  -- The rows of the levels below one are as they were.
  abbrev pub RowsKept : ℕ → List ℕ → List ℕ → Type 0
  RowsKept level rows rows' = (length rows' ≡ length rows) × (take (most_names * level) rows' ≡ take (most_names * level) rows) × RowsIn rows'

  -- Node i is the top of an expression.
  pub record ExprAt (i : ℕ) : Type 0 where
    pub within : i < s.counts.nodes
    pub expr : is_expr (contents_in f s).nodes i ≡ true

  -- Node end - 1 is an argument.
  pub record ArgumentBefore (end : ℕ) : Type 0 where
    pub some : 1 ≤ end
    pub within : end ≤ s.counts.nodes
    pub kind : kind_at (contents_in f s).nodes (end - 1) ≡ argument_kind

  -- m is a model of the open file, and node number `call` is a call.
  pub record ModelCall (m call : ℕ) : Type 0 where
    pub opened : Open f s
    pub model : m < s.counts.models
    pub within : call < s.counts.nodes
    pub kind : kind_at (contents_in f s).nodes call ≡ call_kind

  -- Statement q of the open file is an equation or a rate, and its trees can be read at a level.
  pub record OwnAt (rows : List ℕ) (level q : ℕ) : Type 0 where
    pub opened : Open f s
    pub within : q < s.counts.stmts
    pub own : kind_of_stmt (get_or (contents_in f s).stmts q []) ≡ submodel_kind → ⊥
    pub readable : RowsAt rows level

-- There is room for n nodes behind those done, in an area of so many bytes.
pub record NodesFit (done n long : ℕ) : Type 0 where
  pub few : done + n ≤ most_nodes
  pub fit : node_bytes * (done + n) ≤ long
