-- The items of a bracket, and the tags among the items, node by node.
use Rattle.std.specs.Prelude.{ℕ, Option, Some, None, List, [], ◌∷◌, slice_get}
use Rattle.types_spec.specs.declared.types.ty.TypeTreeNode.{TypeTreeNode}
use Rattle.types_spec.specs.declared.types.ty.TypeTreeNode.TheVariants as nodes
use Rattle.types_spec.specs.types.Occurrence.{Placed}
use Rattle.types_resolve.specs.declared.scope.type_brackets.BracketItem.{BracketItem}

-- The node of the bracket without its last item, or `None` if the node is not an item.
abbrev pub without_item : TypeTreeNode → Option ℕ
without_item (nodes.Tag w x) = Some w
without_item (nodes.TagOf w x a) = Some w
without_item (nodes.Including w u) = Some w
without_item node = None

-- The tag of a bracket's last item, located at the lexeme `position`, if the item is a tag.
abbrev pub tag_at : ℕ → TypeTreeNode → List Placed
tag_at position (nodes.Tag w x) = (position, x) ∷ []
tag_at position (nodes.TagOf w x a) = (position, x) ∷ []
tag_at position node = []

-- The tag that a node adds, if the node exists.
abbrev pub tag_if : ℕ → Option TypeTreeNode → List Placed
tag_if position (Some node) = tag_at position node
tag_if position None = []

-- The tag of an item of a bracket, if the item is a tag.
abbrev pub tag_there : List TypeTreeNode → BracketItem → List Placed
tag_there all item = tag_if item.position (slice_get all item.node)
