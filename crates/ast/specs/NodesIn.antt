-- Nodes by place: those of a file and those of an answer area alike.
use Rattle.std.specs.Prelude.{List, ℕ, ◌+◌, ◌*◌, ◌≤◌, length}
use Rattle.ast.specs.FileNumbers.{node_length}
use Rattle.ast.specs.Words.{section}
use Rattle.ast.specs.declared.sections.Nodes.{Nodes}

-- a node's length in bytes
abbrev pub node_bytes : ℕ
node_bytes = 4 * node_length

abbrev pub nodes_in : Nodes → List ℕ → List (List ℕ)
nodes_in ns f = section node_length ns.count ns.at f

-- they lie within the bytes
abbrev pub NodesLie : Nodes → List ℕ → Type 0
NodesLie ns f = ns.at + node_bytes * ns.count ≤ length f
