-- The graph of the tree with some tokens.
use Rattle.std.specs.Prelude.{ℕ, ◌≡◌, List, sum_by}
use Rattle.marshal_spec.specs.format.Words.{of_object, fields}
use Rattle.marshal_spec.specs.format.Token.{Token, measure_of}
use Rattle.marshal_spec.specs.format.Tree.{Tree, IsTree, tokens, made_by, root, objects_of}
use Rattle.test_oracles.specs.declared.build.Graph.{Graph}

-- The number of fields that follow a token.
abbrev pub size_of : Token → ℕ
size_of token = of_object fields (measure_of token)

-- The number of objects that the tokens make.
abbrev pub all_made : List Token → ℕ
all_made ts = sum_by made_by ts

-- The list contains the tokens of a tree.
abbrev pub AreTokens : List Token → Type 0
AreTokens ts = (tree : Tree) × IsTree tree × (ts ≡ tokens tree)

-- The result is the graph of each tree with these tokens.
abbrev pub IsGraph : List Token → Graph → Type 0
IsGraph ts graph =
    (tree : Tree) → IsTree tree → ts ≡ tokens tree
    → (graph.root ≡ root tree 0) × (graph.objects.items ≡ objects_of tree 0)
