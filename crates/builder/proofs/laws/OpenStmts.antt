-- What flattening reads of an open file: its nodes, its statements by their kinds, and the models that they call.
use mathlib.Core.Path.{◌≡◌, ap}
use mathlib.Core.Bool.{true}
use mathlib.Core.List.{List}
use mathlib.Core.Option.{some}
use Prim.Native.Nat.{ℕ, ◌≤◌, ◌<◌}
use native.Mathlib.Omega.{arith}
use lib.Dec.{eqb}
use Rattle.functions.specs.Lists.{place}
use Rattle.ast.specs.Words.{section}
use Rattle.ast.specs.Nodes.{kind_at, name_at, is_expr}
use Rattle.ast.specs.Records.{kind_of_stmt, left_top, right_top, stmt_of}
use Rattle.ast.specs.File.{contents_of}
use Rattle.ast.specs.Opens.{Open, contents_in, file_in}
use Rattle.ast.specs.declared.sections.Sections.{Sections}
use Rattle.ast.proofs.Opened.{ranges}
use Rattle.definitions.specs.Flatten.{model_named}
use Rattle.builder.specs.Tables.{called_by}
use Rattle.definitions.proofs.ListLaws.{place_below}
use Rattle.builder.proofs.laws.OpenRecords.{stmt_is}
use Rattle.builder.proofs.laws.Open.{stmt_record, models_long}
use Rattle.definitions.proofs.StmtKinds.{stmt_submodel, by_stmt_kind}

-- ---- an open file

module _ (f : List ℕ) (s : Sections) (o : Open f s) where
  -- ---- nodes

  -- the nodes, read from the byte at which they begin
  pub nodes_from_lem : section 8 s.counts.nodes s.starts.nodes f ≡ (contents_in f s).nodes
  unfolding contents_of
  nodes_from_lem = ap (λ (at : ℕ). section 8 s.counts.nodes at f) (ranges f s o).starts.nodes

  pub nodes_few : s.counts.nodes ≤ 1024
  nodes_few = o.laid.within.nodes

  pub names_few : s.counts.names ≤ 256
  names_few = o.laid.within.names

  -- ---- statement q

  module _ (q : ℕ) (l : q < s.counts.stmts) where
    -- neither a rate equation nor a submodel statement
    pub is_equation : (kind_of_stmt (stmt_record f s q) ≡ 2 → ⊥) → (kind_of_stmt (stmt_record f s q) ≡ 3 → ⊥) → kind_of_stmt (stmt_record f s q) ≡ 1
    is_equation a b = by_stmt_kind (kind_of_stmt (stmt_record f s q)) (stmt_is f s o q l).kinds (λ k. k) (λ k. absurd (a k)) (λ k. absurd (b k))

    -- both sides of an equation are expressions of the file
    pub equation_sides : kind_of_stmt (stmt_record f s q) ≡ 1
        → ((left_top (stmt_record f s q) < s.counts.nodes) × (is_expr (contents_in f s).nodes (left_top (stmt_record f s q)) ≡ true))
        × ((right_top (stmt_record f s q) < s.counts.nodes) × (is_expr (contents_in f s).nodes (right_top (stmt_record f s q)) ≡ true))
    equation_sides k = let a = stmt_is f s o q l in (a.left k, a.right)

    -- a submodel statement's call
    pub submodel_call : kind_of_stmt (stmt_record f s q) ≡ 3
        → (right_top (stmt_record f s q) < s.counts.nodes) × (kind_at (contents_in f s).nodes (right_top (stmt_record f s q)) ≡ 5)
    submodel_call k = let a = stmt_is f s o q l in (a.right.0, a.call k)

  -- ---- models by name

  pub named_below : (n m : ℕ) → model_named (file_in f s) n ≡ some m → m < s.counts.models
  unfolding model_named place
  named_below n m e = omega (arith, place_below (λ x. eqb n x.name) 0 (file_in f s).models m e, models_long f s)

  -- the model that submodel statement q calls
  pub called_named : (q : ℕ) → kind_of_stmt (stmt_record f s q) ≡ 3
      → called_by (file_in f s) (stmt_of (contents_in f s).nodes (stmt_record f s q)) ≡ model_named (file_in f s) (name_at (contents_in f s).nodes (right_top (stmt_record f s q)))
  unfolding called_by
  called_named q k = ap (called_by (file_in f s)) (stmt_submodel (contents_in f s).nodes (stmt_record f s q) k)
