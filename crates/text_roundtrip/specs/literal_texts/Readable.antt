-- The condition under which texts with the names of a type can be read back: each name is a lexeme
-- and has one meaning. A value of the wildcard type `_` cannot be read back.
use Rattle.std.specs.Prelude.{ℕ, ℤ, ◌≡◌, ◌≤◌, ◌⊎◌, List, [], length, slice_get, find, Some}
use Rattle.std.specs.Prelude.{Contains}
use Rattle.std.specs.List.{position, AllByRecursion}
use Rattle.std.specs.Str.{bytes_eq}
use Rattle.types_lex.specs.Lexeme.{Lower, Tag, IsForm}
use Rattle.types_spec.specs.declared.types.names.ConstrNames.{ConstrNames}
use Rattle.types_spec.specs.declared.types.names.TagName.{TagName}
use Rattle.types_spec.specs.declared.types.names.Names.{Names}
use Rattle.types_spec.specs.declared.types.shape.PolyTag.{PolyTag}
use Rattle.types_spec.specs.declared.types.shape.ShapeOf.{ShapeOf}
use Rattle.types_spec.specs.declared.types.shape.ShapeOf.TheVariants as shapes
use Rattle.types_spec.specs.types.Fitting.{tag_with}
use Rattle.text_literal.specs.literal_grammar.Literal.{LiteralHead, tag_head, head_kinds}
use Rattle.text_print.specs.leaves.Frames.{is_hash}
use Rattle.types_spec.specs.declared.types.decl.Decl.{Decl}
use Rattle.types_spec.specs.types.Names.{names_of}
use Rattle.types_spec.specs.types.Shape.{shape}
use Rattle.types_spec.specs.types.Ty.{Ty}
use Rattle.text_roundtrip.specs.lexed.Lexed.{Ends, IsLexed, BeginsWithoutStar}
use Rattle.text_literal.specs.parser.Starts.{constructor_name, is_constr, tag_named}

-- The name is written like the head of a literal.
pub record IsHead (name : List ℕ) : Type 0 where
  pub head : LiteralHead
  pub lexed : IsLexed Ends name (head_kinds head)
  pub named : constructor_name head ≡ Some name
  pub begins : BeginsWithoutStar name

abbrev pub AreFieldNames : List (List ℕ) → Type 0
AreFieldNames fields = AllByRecursion (λ field. IsForm (Lower field)) fields

pub record IsConstantName (names : Names) (i : ℕ) (name : List ℕ) : Type 0 where
  pub is_head : IsHead name
  pub one : position (bytes_eq name) names.constants ≡ Some i

pub record IsConstructorName (names : Names) (tag : ℕ) (constr : ConstrNames) : Type 0 where
  pub is_head : IsHead constr.name
  pub fields : AreFieldNames constr.fields
  pub one : position (is_constr constr.name constr.fields) names.constructors ≡ Some tag

pub record AreSumNames (names : Names) : Type 0 where
  pub constant : (i : ℕ) (name : List ℕ) → slice_get names.constants i ≡ Some name
      → IsConstantName names i name
  pub constructor : (tag : ℕ) (constr : ConstrNames)
      → slice_get names.constructors tag ≡ Some constr
      → IsConstructorName names tag constr

module _ {T : Type 0} where
  pub record IsTagName (tags : List (PolyTag T)) (names : Names) (z : ℤ) (tag : TagName) :
      Type 0 where
    pub lexed : IsForm (Tag tag.name)
    pub one : tag_named tags names (tag_head tag.name) ≡ tag_with tags z

  abbrev pub IsReadable : ShapeOf T → Names → Type 0
  IsReadable (shapes.Below many) names = (many ≡ 1) ⊎ ((many ≡ 2) ⊎ (many ≡ 256))
  IsReadable (shapes.Sum constants blocks) names = AreSumNames names
  IsReadable (shapes.Product mutable ts) names =
      AreFieldNames names.fields × (names.fields ≡ [] → 2 ≤ length ts)
  IsReadable (shapes.FlatFloats mutable n) names = AreFieldNames names.fields
  IsReadable (shapes.Poly tags) names =
      (z : ℤ) (tag : TagName) → find (is_hash z) names.tags ≡ Some tag → IsTagName tags names z tag
  IsReadable shapes.Anything names = ⊥
  IsReadable (shapes.ArrayOfAnything t) names = ⊥
  IsReadable shape names = Unit {0}

-- The names of each type in `types` can be read back.
abbrev pub AreReadable : List Decl → List Ty → Type 0
AreReadable decls types =
    (u : Ty) → Contains types u → IsReadable (shape decls u) (names_of decls u)
