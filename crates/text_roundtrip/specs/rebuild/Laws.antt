-- The text of a value is read as the value, at types that come from accepted texts.
use Rattle.std.specs.Prelude.{ℕ, ◌^◌, ◌<◌, List}
use Rattle.types_spec.specs.declared.types.decl.Decl.{Decl}
use Rattle.types_spec.specs.types.WellFormed.{AreWellFormed, IsSoundType}
use Rattle.types_spec.specs.types.Equal.{declared_shapes}
use Rattle.types_spec.specs.types.Names.{names_of}
use Rattle.types_spec.specs.types.Reached.{IsReached, NoneIsWildcard}
use Rattle.types_spec.specs.types.Shape.{shape}
use Rattle.types_spec.specs.types.Ty.{Ty}
use Rattle.types_spec.specs.types.Typing.{HasType}
use Rattle.marshal_spec.specs.format.Tree.{Tree, IsTree, ReferBack, root, made, objects_of}
use Rattle.text_print.specs.show.ShownValues.{shown_text}
use Rattle.types_table.specs.declared.type_table.tabled.Tabled.{Tabled}
use Rattle.types_table.specs.type_table.Made.{types_of, IsTypeTable}
use Rattle.types_wellformed.specs.declarations.Read.{IsDeclared, IsTypeOf}
use Rattle.text_roundtrip.specs.literal_texts.Readable.{AreReadable}
use Rattle.text_roundtrip.specs.readback.ReadBack.{IsReadBack}
use Rattle.text_roundtrip.specs.text_lines.Laws.{ReadsAgain}

-- The names of each type that is reached from a type of an accepted text, over declarations of an
-- accepted text, can be read back. No reached type is `_`.
abbrev pub NamesAreReadBack : Type 0
NamesAreReadBack =
    (file_text type_text : List ℕ) (decls : List Decl) (t : Ty) (types : List Ty)
    → IsDeclared file_text decls → IsTypeOf decls type_text t → IsReached decls t types
    → NoneIsWildcard decls types → AreReadable decls types

-- If a type and its declarations come from accepted texts, then the text of a value of the type is
-- read as the value.
abbrev pub DeclaredTextsAreReadBack : Type 0
DeclaredTextsAreReadBack =
    (file_text type_text : List ℕ) (decls : List Decl) (t : Ty) (types : List Ty)
    → IsDeclared file_text decls → IsTypeOf decls type_text t
    → AreWellFormed decls → IsSoundType decls t → IsReached decls t types
    → NoneIsWildcard decls types
    → (tree : Tree) → IsTree tree → ReferBack tree 0 → made tree < 2 ^ 63
    → HasType (declared_shapes decls) (objects_of tree 0) (root tree 0) t
    → IsReadBack (shape decls) (names_of decls) tree t
    (shown_text (shape decls) (names_of decls) (objects_of tree 0) (root tree 0) t)

-- If a type and its declarations come from accepted texts, then the text of a value is read as the
-- value at type 0 of the type's table.
abbrev pub LiteralsAreReadBack : Type 0
LiteralsAreReadBack =
    (file_text type_text : List ℕ) (decls : List Decl) (t : Ty) (table : Tabled)
    → IsDeclared file_text decls → IsTypeOf decls type_text t
    → AreWellFormed decls → IsSoundType decls t → IsTypeTable decls t table
    → NoneIsWildcard decls (types_of table)
    → (tree : Tree) → IsTree tree → ReferBack tree 0 → made tree < 2 ^ 63
    → HasType (declared_shapes decls) (objects_of tree 0) (root tree 0) t
    → ReadsAgain table tree
    (shown_text (shape decls) (names_of decls) (objects_of tree 0) (root tree 0) t)
