-- The objects of a value, numbered in the order of a depth-first traversal.
use Rattle.std.specs.Prelude.{ℕ, ◌+◌, ◌≡◌, List, [], ◌∷◌, Some, slice_get, IsSomeAnd}
use Rattle.std.specs.List.{AllZip}
use Rattle.base_data.specs.declared.model.value.Val.{Val}
use Rattle.base_data.specs.declared.model.value.Obj.{Obj}
use Rattle.marshal_spec.specs.format.Tree.{Tree, root, objects_of}
use Rattle.marshal_spec.specs.format.Isomorphism.{Agree, AgreeObjects}

abbrev pub pairs_from : ℕ → List ℕ → List (ℕ × ℕ)
pairs_from c [] = []
pairs_from c (k ∷ ks) = (k, c) ∷ pairs_from (c + 1) ks

-- Pairs each object number of the list with its position in the list.
abbrev pub numbered : List ℕ → List (ℕ × ℕ)
numbered ks = pairs_from 0 ks

-- No object number occurs twice in the list.
abbrev pub AreDistinct : List ℕ → Type 0
AreDistinct ks = (i j k : ℕ) → slice_get ks i ≡ Some k → slice_get ks j ≡ Some k → i ≡ j

-- The object `b` of the tree's graph agrees with object `k` of `g`.
abbrev pub Shows : List Obj → List ℕ → ℕ → Obj → Type 0
Shows g met k b = IsSomeAnd (slice_get g k) (λ a. AgreeObjects (numbered met) a b)

-- `ks` are the numbers of the objects that the tree contains, in the order of its tokens.
pub record IsNumbering (g : List Obj) (v : Val) (tree : Tree) (ks : List ℕ) : Type 0 where
  pub distinct : AreDistinct ks
  pub objects : AllZip (Shows g ks) ks (objects_of tree 0)
  pub value : Agree (numbered ks) v (root tree 0)
