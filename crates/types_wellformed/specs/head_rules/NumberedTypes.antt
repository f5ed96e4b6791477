-- The items of brackets, with the numbers of their types in a store.
use Rattle.std.specs.Prelude.{◌≡◌, List, Some, slice_get}
use Rattle.std.specs.List.{AllZip}
use Rattle.types_spec.specs.types.Ty.{Ty}
use Rattle.types_spec.specs.types.Occurrence.{PlacedItem}
use Rattle.types_wellformed.specs.declared.head_rules.item.NumberedItem.{NumberedItem}

-- `i` represents the item `item`: the two have the same lexeme, and the number of `i` is the number
-- of the item's type.
pub record IsNumbered (types : List Ty) (i : NumberedItem) (item : PlacedItem) : Type 0 where
  pub placed : i.position ≡ item.0
  pub there : slice_get types i.number ≡ Some item.1

-- The numbered items `items` represent the items `all` of a bracket.
abbrev pub AreNumbered : List Ty → List NumberedItem → List PlacedItem → Type 0
AreNumbered types items all = AllZip (IsNumbered types) items all

-- The numbered brackets `brackets` represent the brackets `all`.
abbrev pub AreAllNumbered : List Ty → List (List NumberedItem) → List (List PlacedItem) → Type 0
AreAllNumbered types brackets all = AllZip (AreNumbered types) brackets all
