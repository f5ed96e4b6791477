use Rattle.std.proofs.Common.{◌≡◌, take}
use Rattle.types_spec.specs.types.Names.{field_names}
use Rattle.types_build.proofs.representation.representation_names.field_names.Given as goal

abbrev pub invariant-loop-field : goal.invariant-loop-field
invariant-loop-field l = l.names.items ≡ field_names (take l.field-index l.fields)
