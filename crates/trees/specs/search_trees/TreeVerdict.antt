-- The verdict on the sets and maps in a value.
use Rattle.std.specs.Prelude.{ℕ, ◌≡◌, ◌⊎◌, ◌<◌, List, length, Some, slice_get, Contains}
use Rattle.base_data.specs.declared.model.value.Val.{Val}
use Rattle.base_data.specs.declared.model.value.Obj.{Obj}
use Rattle.types_spec.specs.declared.types.names.Names.{Names}
use Rattle.types_spec.specs.declared.types.shape.ShapeOf.{ShapeOf}
use Rattle.types_spec.specs.types.Fault.{IsBefore}
use Rattle.trees.specs.declared.search_trees.tree_node.TreeKind.{TreeKind}
use Rattle.trees.specs.declared.search_trees.tree_verdict.TreeVerdict.{TreeVerdict}
use Rattle.trees.specs.declared.search_trees.tree_verdict.TreeVerdict.TheVariants.{Sound, Faulty}
use Rattle.trees.specs.search_trees.NodeJudgement.{rank_of}
use Rattle.trees.specs.search_trees.TreeFault.{IsNode, IsTreeFault, HasNoTreeFault}

-- Faults of height come first, faults of balance come second, and faults of order come last. Among
-- faults of one kind, the fault with the lesser path comes first.
abbrev pub IsLessFault : TreeKind → List ℕ → TreeKind → List ℕ → Type 0
IsLessFault kind path other second =
    (rank_of kind < rank_of other) ⊎ ((kind ≡ other) × IsBefore path second)

module _ {T : Type 0} (shape : T → ShapeOf T) (names : T → Names) (Equal : T → T → Type 0)
    (graph : List Obj) (root : Val) (t : T) where
  -- The nodes in a value. Each object occurs once for each class of equal types.
  pub record AreNodes (nodes : List (ℕ × T)) : Type 0 where
    pub led :
        (o : ℕ) (u : T) → Contains nodes (o, u)
        → (path : List ℕ) × IsNode shape names Equal graph root t path o u
    pub all :
        (path : List ℕ) (o : ℕ) (u : T) → IsNode shape names Equal graph root t path o u
        → (w : T) × Contains nodes (o, w) × Equal w u
    pub apart :
        (j k o : ℕ) (u w : T) → slice_get nodes j ≡ Some (o, u) → slice_get nodes k ≡ Some (o, w)
        → Equal u w → j ≡ k

  -- The verdict on a value: no fault and the number of nodes, or the first fault.
  abbrev pub IsTreeVerdict : TreeVerdict → Type 0
  IsTreeVerdict (Sound n) =
      HasNoTreeFault shape names Equal graph root t
      × (nodes : List (ℕ × T)) × AreNodes nodes × (n ≡ length nodes)
  IsTreeVerdict (Faulty kind path) =
      IsTreeFault shape names Equal graph root t kind path
      × ((other : TreeKind) (second : List ℕ)
      → IsTreeFault shape names Equal graph root t other second
      → ¬ IsLessFault other second kind path)
