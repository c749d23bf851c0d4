-- Flattened statements written before their fates are known: their nodes, and their records, whose fate words are both 0.
use Rattle.std.specs.Prelude.{ℕ, ◌+◌, ◌-◌, ◌*◌, ◌≤◌, ◌≡◌, List, [], ◌∷◌, length}
use Rattle.functions.specs.Lists.{each, sum_of}
use Rattle.ast.specs.Tree.{Flat, equation, rate, size, flat_size}
use Rattle.ast.specs.Bytes.{put}
use Rattle.ast.specs.NodesIn.{node_bytes}
use Rattle.ast.specs.Encode.{flat_nodes, encode}
use Rattle.definitions.specs.Numbers.{most_nodes, stmt_length, equation_kind, rate_kind}
use Rattle.builder.specs.declared.flattening.statements.Written.{Written}

-- Kind, name, left, right, span, and 0 for fate and variable. Its trees, left before right, begin at node `first`.
unfoldable pub unfated_words : ℕ → Flat → List ℕ
unfated_words first (equation l r s) = equation_kind ∷ 0 ∷ (first + size l - 1) ∷ (first + size l + size r - 1) ∷ s.from ∷ s.to ∷ 0 ∷ 0 ∷ []
unfated_words first (rate n r s) = rate_kind ∷ n ∷ 0 ∷ (first + size r - 1) ∷ s.from ∷ s.to ∷ 0 ∷ 0 ∷ []

unfoldable pub unfated : ℕ → List Flat → List (List ℕ)
unfated first [] = []
unfated first (q ∷ qs) = unfated_words first q ∷ unfated (first + flat_size q) qs

-- There is room for statements: their nodes behind those written and in front of the records, their records behind those written, in an area
-- of so many bytes.
pub record FlatsFit (done : Written) (qs : List Flat) (long : ℕ) : Type 0 where
  pub few : done.nodes + sum_of flat_size qs ≤ most_nodes
  pub nodes : node_bytes * (done.nodes + sum_of flat_size qs) ≤ done.end
  pub records : done.end + 4 * stmt_length * length qs ≤ long

-- Statements are written behind those done: their nodes and their records, and all other bytes stay.
pub record FlatsPut (done : Written) (out : List ℕ) (qs : List Flat) (r : Written) (out' : List ℕ) : Type 0 where
  pub nodes : r.nodes ≡ done.nodes + sum_of flat_size qs
  pub end : r.end ≡ done.end + 4 * stmt_length * length qs
  pub bytes : out' ≡ put (put out (node_bytes * done.nodes) (encode (each flat_nodes qs))) done.end (encode (unfated done.nodes qs))
