-- Directed graphs as lists of successors, indexed by node, and the paths and cycles of graphs.
use Rattle.std.specs.Prelude.{ℕ, List, [], ◌∷◌, Contains, slice_index_or}

abbrev pub AdjacencyLists : Type 0
AdjacencyLists = List (List ℕ)

-- An edge leads from node `i` to node `j`.
abbrev pub IsEdge : AdjacencyLists → ℕ → ℕ → Type 0
IsEdge graph i j = Contains (slice_index_or graph i []) j

-- Edges lead from node `i` through the nodes `between` to node `j`.
abbrev pub IsPath : AdjacencyLists → ℕ → List ℕ → ℕ → Type 0
IsPath graph i [] j = IsEdge graph i j
IsPath graph i (next ∷ between) j = IsEdge graph i next × IsPath graph next between j

-- A path leads from node `i` to node `j`.
abbrev pub Reaches : AdjacencyLists → ℕ → ℕ → Type 0
Reaches graph i j = (between : List ℕ) × IsPath graph i between j

-- A path leads from node `i` back to node `i`.
abbrev pub IsOnCycle : AdjacencyLists → ℕ → Type 0
IsOnCycle graph i = Reaches graph i i
