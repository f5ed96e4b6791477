-- The brackets (polymorphic variant types) among occurrences, given by their items or by the nodes
-- of their types.
use Rattle.std.specs.Prelude.{ℕ, ◌≡◌, Option, Some, None, List, length, slice_get, map, All}
use Rattle.std.specs.List.{filter_map, flat_map}
use Rattle.types_spec.specs.types.Ty.{Ty, bracket, tag, tag_of, including}
use Rattle.types_spec.specs.types.TypeNodes.{type_at, types_of, AreOrdered}
use Rattle.types_spec.specs.types.Occurrence.{PlacedItem, Occurrence, use_of, variable_at}
use Rattle.types_spec.specs.types.Occurrence.{bracket_of}
use Rattle.types_spec.specs.types.Occurrence.{DeclPositions}
use Rattle.types_resolve.specs.declared.scope.type_brackets.BracketItem.{BracketItem}
use Rattle.types_resolve.specs.declared.scope.type_brackets.TypeBrackets.{TypeBrackets}

-- ---- brackets among occurrences

abbrev pub as_bracket : Occurrence → Option (List PlacedItem)
as_bracket (use_of k name arguments in_tag) = None
as_bracket (variable_at k name) = None
as_bracket (bracket_of items) = Some items

-- The items of each bracket among the occurrences.
abbrev pub brackets_among : List Occurrence → List (List PlacedItem)
brackets_among all = filter_map as_bracket all

-- ---- brackets by nodes

-- The bracket that contains only the last item of a bracket.
abbrev pub item_of : Ty → Ty
item_of (tag whole x) = tag bracket x
item_of (tag_of whole x argument) = tag_of bracket x argument
item_of (including whole included) = including bracket included
item_of t = t

abbrev pub item_known : List Ty → BracketItem → PlacedItem
item_known types i = (i.position, item_of (type_at types i.node))

abbrev pub items_known : List Ty → List BracketItem → List PlacedItem
items_known types items = map (item_known types) items

abbrev pub brackets_known : List Ty → List (List BracketItem) → List (List PlacedItem)
brackets_known types all = map (items_known types) all

-- ---- brackets of several types

abbrev pub type_known : TypeBrackets → List (List PlacedItem)
type_known t = brackets_known (types_of t.nodes.now) t.brackets

abbrev pub all_known : List TypeBrackets → List (List PlacedItem)
all_known found = flat_map type_known found

abbrev pub IsOrdered : TypeBrackets → Type 0
IsOrdered t = AreOrdered t.nodes.now

-- `found` contains the brackets among the occurrences `all`, in the same order.
pub record AreBrackets (found : List TypeBrackets) (all : List Occurrence) : Type 0 where
  pub ordered : All IsOrdered found
  pub known : all_known found ≡ brackets_among all

-- `found` contains the brackets of each declaration in `all`.
pub record AreFileBrackets (found : List (List TypeBrackets))
    (all : List DeclPositions) : Type 0 where
  pub counted : length found ≡ length all
  pub stand :
      (i : ℕ) (brackets : List TypeBrackets) (d : DeclPositions) → slice_get found i ≡ Some brackets
      → slice_get all i ≡ Some d → AreBrackets brackets d.occurrences
