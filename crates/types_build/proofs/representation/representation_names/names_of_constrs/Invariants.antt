use Rattle.std.proofs.Common.{◌≡◌, take}
use Rattle.std.specs.List.{filter_map}
use Rattle.types_spec.specs.types.Names.{constr_names}
use Rattle.types_build.proofs.representation.representation_names.names_of_constrs.Given as goal

abbrev pub invariant-loop-constructor : goal.invariant-loop-constructor
invariant-loop-constructor l =
    l.names.items ≡ filter_map constr_names (take l.constructor-index l.constructors)
