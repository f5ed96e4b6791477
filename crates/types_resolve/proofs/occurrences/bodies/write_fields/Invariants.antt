use Rattle.std.proofs.Common.{[], ◌∷◌, drop}
use Rattle.types_spec.specs.declared.types.decl.Field.{Field}
use Rattle.types_resolve.specs.occurrences.CountedFile.{field_count, in_field, placed}
use Rattle.types_resolve.proofs.occurrences.OccurrenceLoopLemmas.{Follows, RowFollows}
use Rattle.types_resolve.proofs.occurrences.bodies.write_fields.Given as goal

abbrev pub invariant-loop-field : goal.invariant-loop-field
invariant-loop-field l = record {
  row :
      RowFollows field_count (λ at (f : Field). placed at f.name ∷ []) l.marks l.fields
      l.row l.rest (drop l.field-index l.fields);
  found :
      Follows field_count (λ at x. []) (λ at x. []) in_field l.initial.found l.marks l.fields
      l.found l.rest (drop l.field-index l.fields);
}
