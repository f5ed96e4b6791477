-- The text of a value at a type is read at the index of the type in a table.
use Rattle.std.specs.Prelude.{ℕ, ◌^◌, ◌<◌, ◌≢◌, length, List, [], Ok}
use Rattle.std.specs.List.{AllByRecursion}
use Rattle.types_lex.specs.declared.lexeme.Lexeme.{Lexeme}
use Rattle.types_lex.specs.LexText.{Lexes}
use Rattle.types_spec.specs.declared.types.decl.Decl.{Decl}
use Rattle.types_spec.specs.types.WellFormed.{AreWellFormed, IsSoundType}
use Rattle.types_spec.specs.types.Equal.{declared_shapes}
use Rattle.types_spec.specs.types.Names.{names_of}
use Rattle.types_spec.specs.types.Shape.{shape}
use Rattle.types_spec.specs.types.Ty.{Ty}
use Rattle.types_spec.specs.types.Typing.{HasType}
use Rattle.marshal_spec.specs.format.Tree.{Tree, IsTree, ReferBack, root, made, objects_of}
use Rattle.text_print.specs.show.ShownValues.{shown_text}
use Rattle.types_table.specs.declared.type_table.tabled.Tabled.{Tabled}
use Rattle.types_table.specs.type_table.Made.{types_of, IsTypeTable}
use Rattle.text_literal.specs.parser.LiteralAnswers.{IsAnswer}
use Rattle.text_roundtrip.specs.literal_texts.Readable.{AreReadable}

-- The text is one non-empty line. At type 0 of the table and without old objects, the answer for
-- the text's lexemes is the value of the tree with its objects.
pub record ReadsAgain (table : Tabled) (tree : Tree) (text : List ℕ) : Type 0 where
  pub lexemes : List Lexeme
  pub lexes : Lexes text lexemes
  pub some : 0 < length text
  pub one_line : AllByRecursion (λ b. b ≢ 10) text
  pub answer : (end : ℕ) → IsAnswer table 0 lexemes end [] (Ok (objects_of tree 0, root tree 0))

-- If the names of all types of a table can be read back, then each text of a value of the table's
-- type is read again (`ReadsAgain`).
abbrev pub TextsAreReadAgain : Type 0
TextsAreReadAgain =
    (decls : List Decl) (t : Ty) (table : Tabled)
    → AreWellFormed decls → IsSoundType decls t → IsTypeTable decls t table
    → AreReadable decls (types_of table)
    → (tree : Tree) → IsTree tree → ReferBack tree 0 → made tree < 2 ^ 63
    → HasType (declared_shapes decls) (objects_of tree 0) (root tree 0) t
    → ReadsAgain table tree
    (shown_text (shape decls) (names_of decls) (objects_of tree 0) (root tree 0) t)
