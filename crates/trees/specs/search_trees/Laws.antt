-- The meaning of trees without faults, and the uniqueness of verdicts.
use Rattle.std.specs.Prelude.{ℕ, ◌≡◌, ◌↔◌, List, Some}
use Rattle.base_data.specs.declared.model.value.Val.{Val}
use Rattle.base_data.specs.declared.model.value.Obj.{Obj}
use Rattle.types_spec.specs.declared.types.decl.Decl.{Decl}
use Rattle.types_spec.specs.types.Ty.{Ty}
use Rattle.types_spec.specs.types.WellFormed.{AreWellFormed, IsSoundType}
use Rattle.types_spec.specs.types.Equal.{Equal, declared_shapes}
use Rattle.types_spec.specs.types.Fault.{value_at}
use Rattle.types_spec.specs.types.Names.{names_of}
use Rattle.types_spec.specs.types.Reached.{IsReached}
use Rattle.types_spec.specs.types.Shape.{shape}
use Rattle.types_spec.specs.types.Typing.{HasType}
use Rattle.trees.specs.search_trees.TreeType.{IsTreeType}
use Rattle.trees.specs.search_trees.SearchTree.{IsSearchTree}
use Rattle.trees.specs.search_trees.TreeFault.{HasNoTreeFault}
use Rattle.trees.specs.search_trees.TreeVerdict.{IsTreeVerdict}
use Rattle.trees.specs.declared.search_trees.tree_verdict.TreeVerdict.{TreeVerdict}

-- If a path leads to a value at the type of a tree, then the value is a search tree.
abbrev pub HasSearchTrees : List Decl → List Obj → Val → Ty → Type 0
HasSearchTrees decls graph root t =
    (path : List ℕ) (v : Val) (u : Ty)
    → value_at (declared_shapes decls) graph root t path ≡ Some (v, u)
    → IsTreeType (shape decls) (names_of decls) (Equal decls) u → IsSearchTree graph v

-- If a value has its type, then no node in the value has a fault if and only if all trees in the
-- value are search trees.
abbrev pub SoundTreesAreSearchTrees : Type 0
SoundTreesAreSearchTrees =
    (decls : List Decl) (t : Ty) (types : List Ty)
    → AreWellFormed decls → IsSoundType decls t → IsReached decls t types
    → (graph : List Obj) (root : Val) → HasType (declared_shapes decls) graph root t
    → HasNoTreeFault (shape decls) (names_of decls) (Equal decls) graph root t
    ↔ HasSearchTrees decls graph root t

-- The verdict is the verdict on the value over the declarations `decls`.
abbrev pub IsVerdictOf : List Decl → List Obj → Val → Ty → TreeVerdict → Type 0
IsVerdictOf decls graph root t verdict =
    IsTreeVerdict (shape decls) (names_of decls) (Equal decls) graph root t verdict

-- Each value has at most one verdict.
abbrev pub TreeVerdictsAreOne : Type 0
TreeVerdictsAreOne =
    (decls : List Decl) (graph : List Obj) (root : Val) (t : Ty) (one other : TreeVerdict)
    → IsVerdictOf decls graph root t one → IsVerdictOf decls graph root t other → one ≡ other
