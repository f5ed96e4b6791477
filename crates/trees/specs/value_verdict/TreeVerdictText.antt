-- The text of a verdict on the sets and maps in a value.
use Rattle.std.specs.Prelude.{ℕ, Bool, true, false, List, ◌++◌, codes, decimal}
use Rattle.base_data.specs.model.PathText.{path_text}
use Rattle.trees.specs.declared.search_trees.tree_node.TreeKind.{TreeKind}
use Rattle.trees.specs.declared.search_trees.tree_node.TreeKind.TheVariants as kinds
use Rattle.trees.specs.declared.search_trees.tree_verdict.TreeVerdict.{TreeVerdict}
use Rattle.trees.specs.declared.search_trees.tree_verdict.TreeVerdict.TheVariants.{Sound, Faulty}

abbrev pub kind_word : TreeKind → List ℕ
kind_word kinds.Height = codes "height"
kind_word kinds.Balance = codes "balance"
kind_word kinds.Order = codes "order"

-- The text of a verdict: `sound` and the number of nodes, or the kind of the fault and the fault's
-- path.
abbrev pub verdict_text : TreeVerdict → List ℕ
verdict_text (Sound n) = codes "sound " ++ decimal n
verdict_text (Faulty kind path) =
    codes "fault " ++ kind_word kind ++ codes " at " ++ path_text path

-- The verdict states that no node has a fault.
abbrev pub is_sound : TreeVerdict → Bool
is_sound (Sound n) = true
is_sound (Faulty kind path) = false
