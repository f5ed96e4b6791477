-- The text of a value is read as an isomorphic value, with equal type, text and bytes.
use Rattle.std.specs.Prelude.{ℕ, ◌^◌, ◌<◌, ◌≡◌, List}
use Rattle.base_data.specs.declared.model.value.Val.{Val}
use Rattle.base_data.specs.declared.model.value.Obj.{Obj}
use Rattle.marshal_spec.specs.format.Isomorphism.{Isomorphism, IsTreeOf}
use Rattle.marshal_spec.specs.format.Tree.{Tree, root, made, objects_of}
use Rattle.types_spec.specs.declared.types.decl.Decl.{Decl}
use Rattle.types_spec.specs.types.WellFormed.{AreWellFormed, IsSoundType}
use Rattle.types_spec.specs.types.Equal.{declared_shapes}
use Rattle.types_spec.specs.types.Names.{names_of}
use Rattle.types_spec.specs.types.Reached.{NoneIsWildcard}
use Rattle.types_spec.specs.types.Shape.{shape}
use Rattle.types_spec.specs.types.Ty.{Ty}
use Rattle.types_spec.specs.types.Typing.{HasType}
use Rattle.text_print.specs.show.ShownValues.{shown_text}
use Rattle.types_table.specs.declared.type_table.tabled.Tabled.{Tabled}
use Rattle.types_table.specs.type_table.Made.{types_of, IsTypeTable}
use Rattle.types_wellformed.specs.declarations.Read.{IsDeclared, IsTypeOf}
use Rattle.text_roundtrip.specs.text_lines.Laws.{ReadsAgain}

-- The text is read as the value of `tree`. The value of `tree` is isomorphic to the given value,
-- and has the type and the text of the given value. The given value's tree, which determines the
-- canonical bytes, is `tree`.
pub record IsRebuilt (decls : List Decl) (t : Ty) (table : Tabled) (g : List Obj) (v : Val)
    (tree : Tree) :
    Type 0 where
  pub reads : ReadsAgain table tree (shown_text (shape decls) (names_of decls) g v t)
  pub same : Isomorphism g v (objects_of tree 0) (root tree 0)
  pub typed : HasType (declared_shapes decls) (objects_of tree 0) (root tree 0) t
  pub shown : shown_text (shape decls) (names_of decls) (objects_of tree 0) (root tree 0) t
      ≡ shown_text (shape decls) (names_of decls) g v t
  pub bytes : IsTreeOf (objects_of tree 0) (root tree 0) tree

-- Each value of a type of an accepted text, over declarations of an accepted text, is rebuilt
-- (`IsRebuilt`). No reached type is `_`.
abbrev pub ValuesAreRebuilt : Type 0
ValuesAreRebuilt =
    (file_text type_text : List ℕ) (decls : List Decl) (t : Ty) (table : Tabled)
    → IsDeclared file_text decls → IsTypeOf decls type_text t
    → AreWellFormed decls → IsSoundType decls t → IsTypeTable decls t table
    → NoneIsWildcard decls (types_of table)
    → (g : List Obj) (v : Val) (tree : Tree) → IsTreeOf g v tree → made tree < 2 ^ 63
    → HasType (declared_shapes decls) g v t → IsRebuilt decls t table g v tree
