use Rattle.std.proofs.Common.{◌≡◌, take}
use Rattle.std.specs.List.{filter_map}
use Rattle.types_spec.specs.types.Names.{constant_name}
use Rattle.types_build.proofs.representation.representation_names.constant_names.Given as goal

abbrev pub invariant-loop-constructor : goal.invariant-loop-constructor
invariant-loop-constructor l =
    l.names.items ≡ filter_map constant_name (take l.constructor-index l.constructors)
