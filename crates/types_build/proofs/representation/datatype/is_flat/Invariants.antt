use Rattle.std.proofs.Common.{◌≡◌, drop}
use Rattle.types_spec.specs.types.Shape.{is_flat}
use Rattle.types_table.specs.store.Held.{Grows}
use Rattle.types_build.proofs.representation.datatype.is_flat.Given as goal

abbrev pub invariant-loop-field : goal.invariant-loop-field
invariant-loop-field l =
    Grows l.initial.types l.types × (is_flat l.decls (drop l.field-index l.fields) ≡ is_flat l.decls l.fields)
