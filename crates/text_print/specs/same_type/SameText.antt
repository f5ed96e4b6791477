-- Isomorphic values have the same text.
use Rattle.std.specs.Prelude.{ℕ, ◌≡◌, List}
use Rattle.base_data.specs.declared.model.value.Val.{Val}
use Rattle.base_data.specs.declared.model.value.Obj.{Obj}
use Rattle.marshal_spec.specs.format.Isomorphism.{Isomorphism}
use Rattle.types_spec.specs.declared.types.decl.Decl.{Decl}
use Rattle.types_spec.specs.declared.types.names.Names.{Names}
use Rattle.types_spec.specs.declared.types.shape.ShapeOf.{ShapeOf}
use Rattle.types_spec.specs.types.Names.{names_of}
use Rattle.types_spec.specs.types.Shape.{shape}
use Rattle.types_spec.specs.types.Ty.{Ty}
use Rattle.text_print.specs.show.ShownValues.{shown_text}

-- Isomorphic values have the same text at a type over declarations.
abbrev pub DeclaredTextsAreKept : Type 0
DeclaredTextsAreKept =
    (decls : List Decl) (g h : List Obj) (v w : Val) (t : Ty) → Isomorphism g v h w
    → shown_text (shape decls) (names_of decls) g v t
    ≡ shown_text (shape decls) (names_of decls) h w t

-- Isomorphic values have the same text at a type number, for arbitrary representations and names.
abbrev pub TableTextsAreKept : Type 0
TableTextsAreKept =
    (shapes : ℕ → ShapeOf ℕ) (names : ℕ → Names) (g h : List Obj) (v w : Val) (i : ℕ)
    → Isomorphism g v h w
    → shown_text shapes names g v i ≡ shown_text shapes names h w i
