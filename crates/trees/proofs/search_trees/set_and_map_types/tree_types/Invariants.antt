use Rattle.std.proofs.Common.{ℕ, ◌≡◌, ◌<◌, false, length, get_or}
use Rattle.std.specs.Prelude.{IsTrue, ◌↔◌}
use Rattle.trees.specs.search_trees.TreeType.{IsTreeNumber}
use Rattle.trees.proofs.search_trees.set_and_map_types.tree_types.Given as goal

abbrev pub invariant-loop-number : goal.invariant-loop-number
invariant-loop-number l =
    (length l.found.items ≡ l.number)
    × ((t : ℕ) → t < l.number → IsTrue (get_or l.found.items t false) ↔ IsTreeNumber l.table t)
