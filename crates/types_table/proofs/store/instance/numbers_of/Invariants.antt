use Rattle.types_table.specs.store.Instance.{argument_at, AreInstances}
use Rattle.types_table.proofs.store.instance.numbers_of.Given as goal

abbrev pub invariant-loop-node : goal.invariant-loop-node
invariant-loop-node l =
    AreInstances l.initial.types l.types (argument_at l.initial.types l.parameters l.arguments)
    l.nodes l.node-index l.numbers.items
