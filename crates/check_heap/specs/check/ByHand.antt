-- An example, computed by hand: the bound on the steps of a check for a list of items.
use Rattle.std.specs.Prelude.{◌≡◌, List, [], ◌∷◌, pos, replicate, false, true}
use Rattle.base_data.specs.declared.model.value.Val.TheVariants as vals
use Rattle.base_data.specs.declared.model.value.Obj.{Obj}
use Rattle.base_data.specs.declared.model.value.Obj.TheVariants as objects
use Rattle.types_spec.specs.declared.types.shape.ShapeOf.TheVariants as shapes
use Rattle.types_spec.specs.types.StepBounds.{most_steps}
use Rattle.types_spec.specs.types.Table.{Table}

-- The table of `item list`, where `type item = Nil | Num of int | Text of string | Pair of item *
-- item | Cell of item ref`.
abbrev pub item_table : Table
item_table = record {
  nodes =
      shapes.Sum 1 (record { mutable = false; fields = 1 ∷ 0 ∷ [] } ∷ [])
      ∷ shapes.Sum 1
      (record { mutable = false; fields = 2 ∷ [] } ∷ record { mutable = false; fields = 3 ∷ [] }
      ∷ record { mutable = false; fields = 1 ∷ 1 ∷ [] }
      ∷ record { mutable = false; fields = 4 ∷ [] } ∷ [])
      ∷ shapes.AnyInt ∷ shapes.Bytes false ∷ shapes.Product true (1 ∷ []) ∷ [];
  classes = 0 ∷ 1 ∷ 2 ∷ 3 ∷ 4 ∷ [];
}

-- The list of `Nil`, `Nil` and `Text` of 38 times `c`: five objects with seven fields.
abbrev pub items : List Obj
items =
    objects.Block 0 (vals.Int (pos 0) ∷ vals.Ref 1 ∷ [])
    ∷ objects.Block 0 (vals.Int (pos 0) ∷ vals.Ref 2 ∷ [])
    ∷ objects.Block 0 (vals.Ref 3 ∷ vals.Int (pos 0) ∷ []) ∷ objects.Block 1 (vals.Ref 4 ∷ [])
    ∷ objects.Bytes (replicate 38 99) ∷ []

-- One step for the root, and twelve for the objects and fields at each of five classes.
abbrev pub TakesSixtyOne : Type 0
TakesSixtyOne = most_steps item_table items ≡ 61
