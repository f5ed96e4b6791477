use Rattle.std.proofs.Common.{◌≡◌, ◌++◌, drop}
use Rattle.std.specs.List.{filter_map}
use Rattle.types_spec.specs.types.TypeNodes.{types_of}
use Rattle.types_spec.specs.types.Scope.{written_tag}
use Rattle.types_resolve.specs.scope.TypeBrackets.{items_known}
use Rattle.types_resolve.proofs.occurrences.row.row_of.Given as goal

-- The collected tags, followed by the tags of the remaining items, are the tags of all items.
abbrev pub invariant-loop-item : goal.invariant-loop-item
invariant-loop-item l =
    l.row ++ filter_map written_tag (items_known (types_of l.nodes) (drop l.item-index l.items))
    ≡ filter_map written_tag (items_known (types_of l.nodes) l.items)
