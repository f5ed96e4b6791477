use Rattle.std.proofs.Common.{◌≡◌, ◌<◌, ◌++◌, length, drop}
use Rattle.std.specs.Prelude.{reverse}
use Rattle.types_spec.specs.types.TypeNodes.{types_of, type_at}
use Rattle.types_resolve.specs.occurrences.Counted.{items_in}
use Rattle.types_resolve.specs.scope.TypeBrackets.{items_known}
use Rattle.types_resolve.proofs.occurrences.items.items_of.Given as goal

-- The remaining items, followed by the collected items in reverse order, are all items of the
-- bracket.
abbrev pub invariant-loop-w : goal.invariant-loop-w
invariant-loop-w l = record {
  below : l.n < length l.nodes;
  left :
      items_in (drop l.first l.marks) (type_at (types_of l.nodes) l.n) ++ items_known (types_of l.nodes) (reverse l.items.items)
      ≡ items_in (drop l.first l.marks) (type_at (types_of l.nodes) l.node);
}

abbrev pub decreases-loop-w : goal.decreases-loop-w
decreases-loop-w l = l.n
