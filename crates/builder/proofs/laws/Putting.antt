-- The nodes of flattened statements, and a tree of the file written as nodes.
use mathlib.Core.Path.{◌≡◌, ap, ◌∙◌}
use mathlib.Core.Bool.{true}
use mathlib.Core.List.{List, ◌++◌}
use Prim.Native.Nat.{ℕ, ◌+◌, ◌-◌, ◌*◌, ◌≤◌, ◌<◌}
use native.Mathlib.Omega.{arith}
use lib.ListN.{length, take, drop}
use Rattle.functions.specs.Lists.{each, sum_of}
use Rattle.ast.specs.Tree.{Expr, Flat, size, flat_size}
use Rattle.ast.specs.Words.{section, word_of}
use Rattle.ast.specs.Bytes.{front, put}
use Rattle.ast.specs.Nodes.{node_at, is_expr}
use Rattle.ast.specs.Encode.{nodes, flat_nodes, encode}
use Rattle.ast.specs.Rows.{read, spanning, bearing}
use Rattle.ast.specs.Opens.{Open, contents_in}
use Rattle.ast.specs.declared.sections.Sections.{Sections}
use Rattle.ast.proofs.Encodes.{each_append, encode_append, length_tree}
use Rattle.ast.proofs.Fronts.{lent_put}
use Rattle.ast.proofs.Seen.{size_respan, read_own}
use Rattle.builder.proofs.laws.OpenStmts.{nodes_from_lem}
use Rattle.area.proofs.Puts.{length_put}
use Rattle.builder.proofs.laws.OpenRecords.{passes}
use Rattle.definitions.proofs.Sections.{length_wide}
use Rattle.definitions.proofs.Lengths.{nodes_wide, count_nodes}

-- ---- nodes of statements

pub length_flats : (qs : List Flat) → length (encode (each flat_nodes qs)) ≡ 32 * sum_of flat_size qs
length_flats qs = length_wide 8 (each flat_nodes qs) (nodes_wide qs) ∙ omega (arith, count_nodes qs)

pub flats_append : (xs ys : List Flat) → encode (each flat_nodes (xs ++ ys)) ≡ encode (each flat_nodes xs) ++ encode (each flat_nodes ys)
flats_append xs ys = ap encode (each_append flat_nodes xs ys) ∙ encode_append (each flat_nodes xs) (each flat_nodes ys)

-- ---- a tree of the file, with its own span

module _ (f : List ℕ) (s : Sections) (o : Open f s) (rows : List ℕ) (level i : ℕ) (from to : ℕ) where
  pub bearing_size : size (bearing from to (section 8 s.counts.nodes s.starts.nodes f) rows level i) ≡ size (read (contents_in f s).nodes rows level i)
  bearing_size = size_respan (spanning from to) _ ∙ ap (λ (ns : List (List ℕ)). size (read ns rows level i)) (nodes_from_lem f s o)

  bearing_own : i < s.counts.nodes → is_expr (contents_in f s).nodes i ≡ true
      → from ≡ word_of (node_at (contents_in f s).nodes i) 4 → to ≡ word_of (node_at (contents_in f s).nodes i) 5
      → bearing from to (section 8 s.counts.nodes s.starts.nodes f) rows level i ≡ read (contents_in f s).nodes rows level i
  bearing_own l x ef et =
      ap (λ (ns : List (List ℕ)). bearing from to ns rows level i) (nodes_from_lem f s o)
      ∙ read_own s.counts.names (contents_in f s).nodes s.counts.nodes (passes f s o).nodes rows level i l x from to ef et

  pub tree_put : (d ys : List ℕ) (done r : ℕ) → 32 * done ≤ length d → i < s.counts.nodes → is_expr (contents_in f s).nodes i ≡ true
      → from ≡ word_of (node_at (contents_in f s).nodes i) 4 → to ≡ word_of (node_at (contents_in f s).nodes i) 5
      → (r ≡ size (bearing from to (section 8 s.counts.nodes s.starts.nodes f) rows level i))
      × (ys ≡ front (take (length d - 32 * done) (drop (32 * done) d)) (encode (nodes (bearing from to (section 8 s.counts.nodes s.starts.nodes f) rows level i))))
      → (done + r ≡ done + size (read (contents_in f s).nodes rows level i))
      × (take (32 * done) d ++ (ys ++ drop (length d - 32 * done) (drop (32 * done) d)) ≡ put d (32 * done) (encode (nodes (read (contents_in f s).nodes rows level i))))
  tree_put d ys done r h l x ef et (er, ey) =
      (omega (arith, bearing_size), lent_put d _ ys (32 * done) h (ey ∙ ap (λ (e : Expr). front (take (length d - 32 * done) (drop (32 * done) d)) (encode (nodes e))) (bearing_own l x ef et)))

-- a tree's nodes leave the length
pub tree_long : (d d' : List ℕ) (e : Expr) (done : ℕ) → d' ≡ put d (32 * done) (encode (nodes e)) → 32 * (done + size e) ≤ length d → length d' ≡ length d
tree_long d d' e done h l = ap length h ∙ length_put d (encode (nodes e)) (32 * done) (omega (arith, length_tree e))
