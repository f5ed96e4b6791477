-- Isomorphism of values: two values are equal up to the numbers of their objects.
use Rattle.std.specs.Prelude.{ℕ, ◌≡◌, ◌↔◌, List, slice_get, IsSomeAnd, Contains}
use Rattle.std.specs.List.{AllZip}
use Rattle.base_data.specs.declared.model.value.Val.{Val}
use Rattle.base_data.specs.declared.model.value.Val.TheVariants as vals
use Rattle.base_data.specs.declared.model.value.Obj.{Obj}
use Rattle.base_data.specs.declared.model.value.Obj.TheVariants as objects
use Rattle.marshal_spec.specs.format.Tree.{Tree, root, objects_of, IsTree, ReferBack}

-- Two values agree under `pairs`: they are equal integers, equal atoms, or references to the two
-- objects of a pair.
abbrev pub Agree : List (ℕ × ℕ) → Val → Val → Type 0
Agree pairs (vals.Int x) (vals.Int y) = x ≡ y
Agree pairs (vals.Atom x) (vals.Atom y) = x ≡ y
Agree pairs (vals.Ref k) (vals.Ref l) = Contains pairs (k, l)
Agree pairs v w = ⊥

-- Two objects agree under `pairs`: they are blocks of one tag and size whose fields agree, or equal
-- objects without fields.
abbrev pub AgreeObjects : List (ℕ × ℕ) → Obj → Obj → Type 0
AgreeObjects pairs (objects.Block tag values) (objects.Block tag' values') =
    (tag ≡ tag') × AllZip (Agree pairs) values values'
AgreeObjects pairs (objects.Bytes bytes) b = objects.Bytes bytes ≡ b
AgreeObjects pairs (objects.Double bits) b = objects.Double bits ≡ b
AgreeObjects pairs (objects.Doubles all) b = objects.Doubles all ≡ b
AgreeObjects pairs (objects.I32 z) b = objects.I32 z ≡ b
AgreeObjects pairs (objects.I64 z) b = objects.I64 z ≡ b
AgreeObjects pairs (objects.Native z) b = objects.Native z ≡ b
AgreeObjects pairs (objects.Block tag values) b = ⊥

-- The pairs relate the objects of two graphs one to one, and both objects of each pair exist and
-- agree.
pub record IsPairing (g h : List Obj) (pairs : List (ℕ × ℕ)) : Type 0 where
  pub one_to_one : (k l m n : ℕ) → Contains pairs (k, l) → Contains pairs (m, n) → (k ≡ m) ↔ (l ≡ n)
  pub agree : (k l : ℕ) → Contains pairs (k, l)
      → IsSomeAnd (slice_get g k) (λ a. IsSomeAnd (slice_get h l) (λ b. AgreeObjects pairs a b))

-- The values `v` and `w` are isomorphic: `v` and `w` agree under some pairing.
abbrev pub Isomorphism : List Obj → Val → List Obj → Val → Type 0
Isomorphism g v h w = (pairs : List (ℕ × ℕ)) × IsPairing g h pairs × Agree pairs v w

-- The tree encodes a value that is isomorphic to the value `v` of the graph `g`.
pub record IsTreeOf (g : List Obj) (v : Val) (tree : Tree) : Type 0 where
  pub is_tree : IsTree tree
  pub refers_back : ReferBack tree 0
  pub same : Isomorphism g v (objects_of tree 0) (root tree 0)
