-- A lemma about records that are flat through their own group.
use Rattle.std.proofs.Common.{ℕ, ◌≡◌, ◌∙◌, Bool, true, List, sym, ap, subst}
use Rattle.std.specs.Prelude.{Contains, IsTrue, ◌↔◌}
use Rattle.types_spec.specs.declared.types.decl.Field.{Field}
use Rattle.types_spec.specs.declared.types.decl.Body.{Body}
use Rattle.types_spec.specs.declared.types.decl.Body.TheVariants as bodies
use Rattle.types_spec.specs.declared.types.decl.Decl.{Decl}
use Rattle.types_spec.specs.types.Shape.{is_float}
use Rattle.types_spec.specs.types.Scope.{IsThrough, IsFlatThroughGroup}

-- If all fields of a record expand to `float`, then the record is flat through the group if and
-- only if some field expands through the group.
pub record_flat :
    (decls : List Decl) (group : ℕ) (body : Body) (fields borrowed : List Field) (are some : Bool)
    → body ≡ bodies.Record fields → borrowed ≡ fields → are ≡ true
    → IsTrue are ↔ ((f : Field) → Contains borrowed f → is_float decls f.ty ≡ true)
    → IsTrue some ↔ ((f : Field) × Contains borrowed f × IsThrough decls group f.ty)
    → IsTrue some ↔ IsFlatThroughGroup decls group body
record_flat decls group body fields borrowed are some is same yes' floats through =
    subst (λ b. IsTrue some ↔ IsFlatThroughGroup decls group b) (sym (is ∙ ap (λ (fs : List Field). bodies.Record fs) (sym same))) (
      λ holds. let some_field = through.0 holds in (floats.0 yes', some_field.0, some_field.1, some_field.2),
      λ flat. through.1 (flat.1, flat.2, flat.3),
    )
