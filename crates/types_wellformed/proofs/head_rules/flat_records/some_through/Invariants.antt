use Rattle.std.proofs.Common.{take}
use Rattle.std.specs.Prelude.{All}
use Rattle.types_spec.specs.declared.types.decl.Field.{Field}
use Rattle.types_spec.specs.types.Scope.{IsThrough}
use Rattle.types_wellformed.proofs.head_rules.flat_records.some_through.Given as goal

abbrev pub invariant-loop-field : goal.invariant-loop-field
invariant-loop-field l = All (λ (f : Field). ¬ IsThrough l.decls l.group f.ty) (take l.field-index l.fields)
