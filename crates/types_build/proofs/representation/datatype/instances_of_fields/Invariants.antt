use Rattle.std.proofs.Common.{map, take}
use Rattle.types_spec.specs.types.Shape.{types_of_fields}
use Rattle.types_table.specs.store.Instance.{HoldsEach}
use Rattle.types_build.specs.representation.Representation.{instance_at}
use Rattle.types_build.proofs.representation.datatype.instances_of_fields.Given as goal

abbrev pub invariant-loop-field : goal.invariant-loop-field
invariant-loop-field l =
    HoldsEach l.initial.types l.types
    (map (instance_at l.initial.types l.decl l.arguments) (types_of_fields (take l.field-index l.fields))) l.numbers.items
