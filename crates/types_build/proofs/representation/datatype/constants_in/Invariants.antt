use Rattle.std.proofs.Common.{◌≡◌, ◌≤◌, take}
use Rattle.types_spec.specs.types.Shape.{constants_in}
use Rattle.types_build.proofs.representation.datatype.constants_in.Given as goal

abbrev pub invariant-loop-constructor : goal.invariant-loop-constructor
invariant-loop-constructor l =
    (l.count ≤ l.constructor-index) × (l.count ≡ constants_in (take l.constructor-index l.constructors))
