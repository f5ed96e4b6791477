-- Tables of types with readable names.
use Rattle.std.specs.Prelude.{ℕ, ◌≡◌, ◌≢◌, ◌<◌, Bool, List, [], length, Some, slice_get}
use Rattle.std.specs.Str.{bytes_eq}
use Rattle.types_lex.specs.declared.lexeme.Keyword.{Keyword}
use Rattle.types_lex.specs.Lexeme.{keyword_text}
use Rattle.types_spec.specs.declared.types.decl.Decl.{Decl}
use Rattle.types_spec.specs.declared.types.names.ConstrNames.{ConstrNames}
use Rattle.types_spec.specs.declared.types.names.Names.{Names}
use Rattle.types_spec.specs.declared.types.shape.ShapeOf.{ShapeOf}
use Rattle.types_spec.specs.declared.types.shape.ShapeOf.TheVariants as shapes
use Rattle.types_spec.specs.types.Ty.{Ty}
use Rattle.text_roundtrip.specs.literal_texts.Readable.{IsConstantName, IsConstructorName}
use Rattle.text_roundtrip.specs.literal_texts.Readable.{IsReadable}
use Rattle.text_roundtrip.specs.literal_texts.Readable.{AreReadable}
use Rattle.text_print.specs.show.TableShapes.{shape_in, names_in}
use Rattle.types_table.specs.declared.type_table.tabled.Tabled.{Tabled}
use Rattle.types_table.specs.type_table.Made.{types_of, IsTypeTable}

abbrev pub IsNoKeyword : List ℕ → Type 0
IsNoKeyword name = (k : Keyword) → name ≢ keyword_text k

abbrev pub has_name : List ℕ → ConstrNames → Bool
has_name name constr = bytes_eq constr.name name

abbrev pub AreConstantNames : Names → Type 0
AreConstantNames names =
    (i : ℕ) (name : List ℕ) → slice_get names.constants i ≡ Some name
    → IsConstantName names i name

abbrev pub AreConstructorNames : Names → Type 0
AreConstructorNames names =
    (tag : ℕ) (constr : ConstrNames) → slice_get names.constructors tag ≡ Some constr
    → IsConstructorName names tag constr

-- The names of the type are readable, and the type has no tags.
abbrev pub IsEncoded : {T : Type 0} → ShapeOf T → Names → Type 0
IsEncoded (shapes.Poly tags) names = names.tags ≡ []
IsEncoded shape names = IsReadable shape names

abbrev pub AreEncoded : Tabled → Type 0
AreEncoded table =
    (i : ℕ) → i < length table.nodes → IsEncoded (shape_in table i) (names_in table i)

-- If the names in a table are readable, then the names are readable at the types of the table.
abbrev pub EncodedAreReadable : Type 0
EncodedAreReadable =
    (decls : List Decl) (t : Ty) (table : Tabled) → IsTypeTable decls t table
    → AreEncoded table → AreReadable decls (types_of table)
