use Rattle.std.proofs.Common.{◌≡◌, ◌&&◌, ◌||◌, drop}
use Rattle.std.specs.List.{list_all, list_any}
use Rattle.types_spec.specs.declared.types.decl.Field.{Field}
use Rattle.types_spec.specs.types.Scope.{is_mixed}
use Rattle.types_spec.specs.types.Shape.{is_float, is_wildcard}
use Rattle.types_wellformed.proofs.head_rules.mixed.is_mixed.Given as goal

-- The fields are mixed, given whether earlier fields expand to `float` and to `_`, and the later
-- fields.
abbrev pub invariant-loop-field : goal.invariant-loop-field
invariant-loop-field l =
    let later = drop l.field-index l.fields in
    (list_all (λ (f : Field). is_float l.decls f.ty || is_wildcard l.decls f.ty) later
    && (l.floats || list_any (λ (f : Field). is_float l.decls f.ty) later)
    && (l.wildcards || list_any (λ (f : Field). is_wildcard l.decls f.ty) later))
    ≡ is_mixed l.decls l.fields
