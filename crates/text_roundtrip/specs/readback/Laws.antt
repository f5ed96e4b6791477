-- The text of a value at a type is read back as the value, with the objects in the order of the
-- text.
use Rattle.std.specs.Prelude.{◌^◌, ◌<◌, List}
use Rattle.types_spec.specs.declared.types.decl.Decl.{Decl}
use Rattle.types_spec.specs.types.WellFormed.{AreWellFormed, IsSoundType}
use Rattle.types_spec.specs.types.Equal.{declared_shapes}
use Rattle.types_spec.specs.types.Names.{names_of}
use Rattle.types_spec.specs.types.Reached.{IsReached}
use Rattle.types_spec.specs.types.Shape.{shape}
use Rattle.types_spec.specs.types.Ty.{Ty}
use Rattle.types_spec.specs.types.Typing.{HasType}
use Rattle.marshal_spec.specs.format.Tree.{Tree, IsTree, ReferBack, root, made, objects_of}
use Rattle.text_print.specs.show.ShownValues.{shown_text}
use Rattle.text_roundtrip.specs.literal_texts.Readable.{AreReadable}
use Rattle.text_roundtrip.specs.readback.ReadBack.{IsReadBack}

-- If the value of a tree has a type, then the value's text is read back. The number of objects must
-- be below 2^63, because labels are integers of the lexer.
abbrev pub TextsAreReadBack : Type 0
TextsAreReadBack =
    (decls : List Decl) (t : Ty) (types : List Ty)
    → AreWellFormed decls → IsSoundType decls t → IsReached decls t types → AreReadable decls types
    → (tree : Tree) → IsTree tree → ReferBack tree 0 → made tree < 2 ^ 63
    → HasType (declared_shapes decls) (objects_of tree 0) (root tree 0) t
    → IsReadBack (shape decls) (names_of decls) tree t
    (shown_text (shape decls) (names_of decls) (objects_of tree 0) (root tree 0) t)
