use Rattle.std.proofs.Common.{◌≡◌, map, take}
use Rattle.types_table.specs.store.Held.{Grows}
use Rattle.types_build.specs.representation.Heads.{AreHeads}
use Rattle.types_wellformed.specs.brackets.Trees.{typed_item, written_item}
use Rattle.types_wellformed.specs.head_rules.Rules.{brackets_at}
use Rattle.types_wellformed.proofs.head_rules.tags.all_tagged.Given as goal

abbrev pub invariant-loop-items : goal.invariant-loop-items
invariant-loop-items l = record {
  grown : Grows l.initial.types l.types;
  heads : AreHeads l.decls l.types l.heads;
  same :
      map (map (typed_item l.types)) l.all
      ≡ map (map (written_item l.decls)) (brackets_at l.initial.types (take l.items-index l.brackets));
}
