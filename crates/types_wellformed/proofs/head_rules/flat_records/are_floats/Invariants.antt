use Rattle.std.proofs.Common.{◌≡◌, true, take}
use Rattle.std.specs.Prelude.{All}
use Rattle.types_spec.specs.declared.types.decl.Field.{Field}
use Rattle.types_spec.specs.types.Shape.{is_float}
use Rattle.types_wellformed.proofs.head_rules.flat_records.are_floats.Given as goal

abbrev pub invariant-loop-field : goal.invariant-loop-field
invariant-loop-field l = All (λ (f : Field). is_float l.decls f.ty ≡ true) (take l.field-index l.fields)
