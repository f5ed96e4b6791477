use Rattle.types_table.proofs.store.StoreTreeLemmas.{AreFirst}
use Rattle.types_table.proofs.store.type_store.TypeStore.tree.Given as goal

abbrev pub invariant-loop-i : goal.invariant-loop-i
invariant-loop-i l = AreFirst l.self l.i l.nodes.items
