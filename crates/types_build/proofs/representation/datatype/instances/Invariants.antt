use Rattle.std.proofs.Common.{map, take}
use Rattle.types_table.specs.store.Instance.{HoldsEach}
use Rattle.types_build.specs.representation.Representation.{instance_at}
use Rattle.types_build.proofs.representation.datatype.instances.Given as goal

abbrev pub invariant-loop-t : goal.invariant-loop-t
invariant-loop-t l =
    HoldsEach l.initial.types l.types
    (map (instance_at l.initial.types l.decl l.arguments) (take l.t-index l.written)) l.numbers.items
