-- The shape and the names of a type, by type index.
use Rattle.std.specs.Prelude.{ℕ, ◌<◌, ◌≡◌, List, [], ◌∷◌, length, map, All, Option, Some, None}
use Rattle.std.specs.Prelude.{slice_get}
use Rattle.types_spec.specs.declared.types.decl.Predeclared.TheVariants as bases
use Rattle.types_spec.specs.declared.types.decl.Decl.{Decl}
use Rattle.types_spec.specs.declared.types.head.TagOf.{TagOf}
use Rattle.types_spec.specs.declared.types.head.HeadOf.{HeadOf}
use Rattle.types_spec.specs.declared.types.head.HeadOf.TheVariants as heads
use Rattle.types_spec.specs.declared.types.shape.Constr.{Constr}
use Rattle.types_spec.specs.declared.types.shape.PolyTag.{PolyTag}
use Rattle.types_spec.specs.declared.types.shape.ShapeOf.{ShapeOf}
use Rattle.types_spec.specs.declared.types.shape.ShapeOf.TheVariants as shapes
use Rattle.types_spec.specs.declared.types.names.Names.{Names}
use Rattle.types_spec.specs.declared.types.names.TagName.{TagName}
use Rattle.types_spec.specs.declared.types.names.ConstrNames.{ConstrNames}
use Rattle.types_spec.specs.declared.types.predeclared.BlockRow.{BlockRow}
use Rattle.types_spec.specs.tag_hash.TagHash.{tag_hash}
use Rattle.types_spec.specs.types.Ty.{Ty}
use Rattle.types_spec.specs.types.TypeNodes.{type_at}
use Rattle.types_spec.specs.types.Declarations.{instance_of}
use Rattle.types_spec.specs.types.Head.{head}
use Rattle.types_spec.specs.types.Shape.{shape}
use Rattle.types_spec.specs.types.Names.{names_of, plain_constr}
use Rattle.types_spec.specs.types.PredeclaredCode.{block_row}
use Rattle.types_spec.specs.types.Table.{constr_with, with_parts, head_with_parts}
use Rattle.types_build.specs.declared.representation.representation.Representation.{Representation}

-- ---- parts

-- The head in which types replace type indices.
abbrev pub head_of_types : List Ty → HeadOf ℕ → HeadOf Ty
head_of_types types at = head_with_parts (type_at types) at

-- The type `t` of a declaration, in which the types with the indices `arguments` replace the
-- declaration's parameters.
abbrev pub instance_at : List Ty → Decl → List ℕ → Ty → Ty
instance_at types decl arguments t = instance_of decl (map (type_at types) arguments) t

-- ---- shapes

-- The shape `found` over type indices represents the shape `all` over types.
abbrev pub IsShapeAt : List Ty → ShapeOf Ty → ShapeOf ℕ → Type 0
IsShapeAt types all found = with_parts (slice_get types) found ≡ with_parts Some all

-- The blocks `found` over type indices represent the blocks `all` over types.
pub record HasBlocks (types : List Ty) (all : List (Constr Ty)) (found : List (Constr ℕ))
    : Type 0 where
  pub within : All (λ (block : Constr ℕ). All (λ i. i < length types) block.fields) found
  pub are : map (constr_with (type_at types)) found ≡ all

-- The optional block over type indices represents the optional block over types.
abbrev pub HasBlock : List Ty → Option (Constr Ty) → Option (Constr ℕ) → Type 0
HasBlock types (Some block) (Some found) = HasBlocks types (block ∷ []) (found ∷ [])
HasBlock types None None = Unit {0}
HasBlock types block found = ⊥

-- The shape of arrays, given the head of the element type and the element type.
abbrev pub array_at : {T U : Type 0} → HeadOf T → U → ShapeOf U
array_at (heads.Variable name) element = shapes.ArrayOfVariable
array_at (heads.Predeclared bases.Float parts) element = shapes.FloatArray
array_at (heads.Predeclared bases.Any parts) element = shapes.ArrayOfAnything element
array_at other element = shapes.ArrayOf element

-- The tag in which the hash replaces the name.
abbrev pub hashed : {T : Type 0} → TagOf T → PolyTag T
hashed tag = record { hash = tag_hash tag.name; arg = tag.argument }

-- The name of the tag together with the hash of the tag.
abbrev pub named : {T : Type 0} → TagOf T → TagName
named tag = record { name = tag.name; hash = tag_hash tag.name }

-- The name of a constructor in a row of the code's table.
abbrev pub constr_row : BlockRow → ConstrNames
constr_row row = plain_constr (block_row row).name

-- ---- heads and shapes together

-- `representation` contains the head and the shape of the type `t`, over type indices.
pub record IsRepresentationOf (decls : List Decl) (types : List Ty) (t : Ty)
    (representation : Representation)
    : Type 0 where
  pub head : head_with_parts (slice_get types) representation.head
      ≡ head_with_parts Some (head decls t)
  pub shape : with_parts (slice_get types) representation.shape ≡ with_parts Some (shape decls t)

-- ---- names

-- `names` are the names of each type whose head over type indices is `at`.
abbrev pub AreNamesAt : List Decl → HeadOf ℕ → Names → Type 0
AreNamesAt decls at names =
    (types : List Ty) (t : Ty)
    → head_with_parts (slice_get types) at ≡ head_with_parts Some (head decls t)
    → names ≡ names_of decls t
