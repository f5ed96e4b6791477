use Rattle.std.proofs.Common.{map, take}
use Rattle.types_spec.specs.types.TypeNodes.{type_at}
use Rattle.types_spec.specs.types.Predeclared.{member_type}
use Rattle.types_table.specs.store.Instance.{HoldsEach}
use Rattle.types_build.proofs.representation.sum.members.Given as goal

abbrev pub invariant-loop-field : goal.invariant-loop-field
invariant-loop-field l =
    HoldsEach l.initial.types l.types
    (map (member_type l.name (map (type_at l.initial.types) l.parts)) (take l.field-index l.fields)) l.numbers.items
