use Rattle.std.proofs.Common.{◌≡◌, map, take}
use Rattle.types_table.specs.store.Held.{Grows}
use Rattle.types_build.specs.representation.Heads.{AreHeads}
use Rattle.types_wellformed.specs.brackets.Trees.{typed_item, written_item}
use Rattle.types_wellformed.specs.head_rules.Rules.{items_at}
use Rattle.types_wellformed.proofs.head_rules.tags.tagged_items.Given as goal

abbrev pub invariant-loop-item : goal.invariant-loop-item
invariant-loop-item l = record {
  grown : Grows l.initial.types l.types;
  heads : AreHeads l.decls l.types l.heads;
  same :
      map (typed_item l.types) l.all
      ≡ map (written_item l.decls) (items_at l.initial.types (take l.item-index l.items));
}
