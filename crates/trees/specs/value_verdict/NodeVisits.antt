-- The nodes among the visits of a value, and the verdict on the nodes.
use Rattle.std.specs.Prelude.{ℕ, ◌≡◌, ◌<◌, Bool, false, List, length, IsTrue, Some, slice_get}
use Rattle.std.specs.Prelude.{slice_index_or}
use Rattle.base_data.specs.declared.model.value.Obj.{Obj}
use Rattle.check_heap.specs.declared.check.visits.Visit.{Visit}
use Rattle.check_heap.specs.check.KnownVisits.{IsPathOf}
use Rattle.trees.specs.declared.search_trees.judging.NodesVerdict.TheVariants as judgements
use Rattle.trees.specs.declared.search_trees.tree_verdict.TreeVerdict.{TreeVerdict}
use Rattle.trees.specs.declared.search_trees.tree_verdict.TreeVerdict.TheVariants.{Sound, Faulty}
use Rattle.trees.specs.search_trees.NodeJudgement.{IsJudgement}
use Rattle.trees.specs.declared.value_verdict.tree_nodes.TreeNodes.{TreeNodes}

-- ---- marks

abbrev pub IsMarked : List Bool → ℕ → Type 0
IsMarked found t = IsTrue (slice_index_or found t false)

abbrev pub NoneMarked : List Bool → Type 0
NoneMarked found = (t : ℕ) → ¬ IsMarked found t

-- ---- nodes

-- Visit `k` is a visit of the object `o` at the type of a tree.
pub record IsVisitAt (IsTree : ℕ → Type 0) (all : List Visit) (k o : ℕ) : Type 0 where
  pub visit : Visit
  pub at : slice_get all k ≡ Some visit
  pub object : visit.object ≡ o
  pub tree : IsTree visit.ty

-- The nodes are all visits at the types of trees among the first `n` visits, in the order of the
-- visits.
pub record AreNodeVisits (IsTree : ℕ → Type 0) (all : List Visit) (n : ℕ) (nodes : TreeNodes)
    : Type 0 where
  pub many : length nodes.visits.items ≡ length nodes.objects.items
  pub below : (i k : ℕ) → slice_get nodes.visits.items i ≡ Some k → k < n
  pub at : (i k o : ℕ) → slice_get nodes.visits.items i ≡ Some k
      → slice_get nodes.objects.items i ≡ Some o → IsVisitAt IsTree all k o
  pub each : (k : ℕ) (v : Visit) → k < n → slice_get all k ≡ Some v → IsTree v.ty
      → (i : ℕ) × (slice_get nodes.visits.items i ≡ Some k)
  pub rising : (i j k m : ℕ) → i < j → slice_get nodes.visits.items i ≡ Some k
      → slice_get nodes.visits.items j ≡ Some m → k < m

-- ---- the verdict

-- The verdict on the nodes among the visits: no fault and the number of nodes, or the first fault
-- and the path to its visit.
abbrev pub IsVerdictAmong : List Obj → List Visit → TreeNodes → TreeVerdict → Type 0
IsVerdictAmong graph all nodes (Sound n) =
    IsJudgement graph nodes.objects.items judgements.Sound × (n ≡ length nodes.objects.items)
IsVerdictAmong graph all nodes (Faulty kind path) =
    (i : ℕ) × (k : ℕ) × IsJudgement graph nodes.objects.items (judgements.Faulty kind i)
    × (slice_get nodes.visits.items i ≡ Some k) × IsPathOf all k path
