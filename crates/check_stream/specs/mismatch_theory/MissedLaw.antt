-- The first fault of a value if all tokens of the value but one satisfy their requirements.
use Rattle.std.specs.Prelude.{ℕ, ◌≡◌, List, [], ◌∷◌, length, slice_get, Some, All, Contains}
use Rattle.base_data.specs.declared.model.value.Val.{Val}
use Rattle.base_data.specs.declared.model.value.Val.TheVariants as vals
use Rattle.base_data.specs.declared.model.value.Obj.{Obj}
use Rattle.base_data.specs.declared.model.value.Obj.TheVariants as objects
use Rattle.types_spec.specs.declared.types.fault.Fault.TheVariants.{Mismatch}
use Rattle.types_spec.specs.types.LawfulShapes.{AreLawful, Everything}
use Rattle.types_spec.specs.types.Fault.{value_at}
use Rattle.types_spec.specs.types.LeastFault.{IsLeastFault}
use Rattle.types_spec.specs.types.Table.{Table, table_shapes}
use Rattle.marshal_spec.specs.format.Token.{Token, integer, atom, shared, block, leaf}
use Rattle.marshal_spec.specs.format.Tree.{Tree, IsTree, tokens, root, objects_of}
use Rattle.check_stream.specs.mismatch_theory.OnlyWay.{path_of}
use Rattle.check_stream.specs.mismatch_theory.PassedBut.{MadeObject, Missed, PassedBut}

-- The token encodes the value `w` of the graph.
abbrev pub IsEncodedBy : List Obj → Val → Token → Type 0
IsEncodedBy graph w (integer z) = w ≡ vals.Int z
IsEncodedBy graph w (atom tag) = w ≡ vals.Atom tag
IsEncodedBy graph w (shared offset) = ⊥
IsEncodedBy graph w (block tag size) =
    (o : ℕ) × (values : List Val) × (w ≡ vals.Ref o)
    × (slice_get graph o ≡ Some (objects.Block tag values)) × (length values ≡ size)
IsEncodedBy graph w (leaf object) =
    (o : ℕ) × (w ≡ vals.Ref o) × (slice_get graph o ≡ Some object)

-- The mismatch is the first fault of the value. At the mismatch, the recorded type is the required
-- type, and the recorded token encodes the value.
pub record IsLeastMissed (table : Table) (graph : List Obj) (root : Val) (missed : Missed)
    : Type 0 where
  pub value : Val
  pub at : value_at (table_shapes table) graph root 0 (path_of missed.trail)
      ≡ Some (value, missed.type)
  pub encoded : IsEncodedBy graph value missed.token
  pub least : IsLeastFault (table_shapes table) graph root 0 (Mismatch (path_of missed.trail))

-- If there is one mismatch, and no reference leads back to a block of the mismatch's trail, then
-- the mismatch is the first fault.
abbrev pub OnlyMissedIsLeast : Type 0
OnlyMissedIsLeast =
    (table : Table) → AreLawful (table_shapes table) Everything
    → (back : List ℕ) (tree : Tree) (made : List MadeObject) (missed : Missed) → IsTree tree
    → PassedBut back table (tokens tree) made [] (missed ∷ [])
    → All (λ (link : ℕ × ℕ). ¬ Contains back link.0) missed.trail
    → IsLeastMissed table (objects_of tree 0) (root tree 0) missed
