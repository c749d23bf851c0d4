-- A root model whose flattened statements are laid into an area.
use Rattle.std.specs.Prelude.{ℕ, ◌≤◌, ◌<◌, List, length}
use Rattle.functions.specs.Lists.{sum_of}
use Rattle.ast.specs.Tree.{flat_size}
use Rattle.ast.specs.Opens.{file_in}
use Rattle.ast.specs.declared.sections.Sections.{Sections}
use Rattle.definitions.specs.Numbers.{most_nodes, most_stmts}
use Rattle.builder.specs.Descent.{RowsAt}
use Rattle.builder.specs.Root.{flats_of}

-- Model m of the open file, with a row for each model; its flattened statements and their nodes are few enough for an area.
pub record Laying (f : List ℕ) (s : Sections) (rows : List ℕ) (m : ℕ) : Type 0 where
  pub model : m < s.counts.models
  pub readable : RowsAt f s rows s.counts.models
  pub few_nodes : sum_of flat_size (flats_of (file_in f s) m) ≤ most_nodes
  pub few_stmts : length (flats_of (file_in f s) m) ≤ most_stmts
