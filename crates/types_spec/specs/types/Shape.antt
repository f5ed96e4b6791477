-- The representation of a type's values (`mlvalues.h`, for the default configuration of the
-- runtime).
use Rattle.std.specs.Prelude.{ℕ, Bool, true, false, if◌then◌else◌, List, [], ◌∷◌, length, map}
use Rattle.std.specs.Prelude.{Option}
use Rattle.std.specs.Prelude.{Some, None}
use Rattle.std.specs.List.{list_all, list_any, filter_map, count_by}
use Rattle.types_spec.specs.tag_hash.TagHash.{tag_hash}
use Rattle.types_spec.specs.declared.types.decl.Predeclared.{Predeclared}
use Rattle.types_spec.specs.declared.types.decl.Predeclared.TheVariants as bases
use Rattle.types_spec.specs.declared.types.decl.Field.{Field}
use Rattle.types_spec.specs.declared.types.decl.Arguments.{Arguments}
use Rattle.types_spec.specs.declared.types.decl.Arguments.TheVariants as arguments
use Rattle.types_spec.specs.declared.types.decl.Constructor.{Constructor}
use Rattle.types_spec.specs.declared.types.decl.Body.{Body}
use Rattle.types_spec.specs.declared.types.decl.Body.TheVariants as bodies
use Rattle.types_spec.specs.declared.types.decl.Decl.{Decl}
use Rattle.types_spec.specs.declared.types.head.TagOf.{TagOf}
use Rattle.types_spec.specs.declared.types.head.HeadOf.{HeadOf}
use Rattle.types_spec.specs.declared.types.head.HeadOf.TheVariants as heads
use Rattle.types_spec.specs.declared.types.shape.Constr.{Constr}
use Rattle.types_spec.specs.declared.types.shape.PolyTag.{PolyTag}
use Rattle.types_spec.specs.declared.types.shape.ShapeOf.{ShapeOf}
use Rattle.types_spec.specs.declared.types.shape.ShapeOf.TheVariants as shapes
use Rattle.types_spec.specs.types.Predeclared.{sum_at, name_at, sum_shape}
use Rattle.types_spec.specs.types.Ty.{Ty}
use Rattle.types_spec.specs.types.Declarations.{declaration_of, instance_of}
use Rattle.types_spec.specs.types.Head.{head}

-- ---- floats

abbrev pub is_float_head : HeadOf Ty → Bool
is_float_head (heads.Predeclared bases.Float ts) = true
is_float_head other = false

abbrev pub is_float : List Decl → Ty → Bool
is_float decls t = is_float_head (head decls t)

abbrev pub is_wildcard_head : HeadOf Ty → Bool
is_wildcard_head (heads.Predeclared bases.Any ts) = true
is_wildcard_head other = false

-- The type expands to `_`.
abbrev pub is_wildcard : List Decl → Ty → Bool
is_wildcard decls t = is_wildcard_head (head decls t)

-- A record is flat if the declared type of each field expands to `float`. A field whose declared
-- type is a parameter makes the record not flat, even if `float` replaces the parameter.
abbrev pub is_flat : List Decl → List Field → Bool
is_flat decls fields = list_all (λ (field : Field). is_float decls field.ty) fields

-- Tests whether the body of a declaration is a flat record. Inline records are never flat.
abbrev pub is_flat_body : List Decl → Body → Bool
is_flat_body decls (bodies.Record fields) = is_flat decls fields
is_flat_body decls body = false

-- ---- constructors

abbrev pub any_mutable : List Field → Bool
any_mutable fields = list_any (λ (field : Field). field.mutable) fields

abbrev pub is_constant : Arguments → Bool
is_constant arguments.Constant = true
is_constant other = false

abbrev pub constants_in : List Constructor → ℕ
constants_in all = count_by (λ (constructor : Constructor). is_constant constructor.arguments) all

abbrev pub types_of_fields : List Field → List Ty
types_of_fields fields = map (λ (field : Field). field.ty) fields

-- The block of a constructor with arguments, or `None` for a constant constructor.
abbrev pub block_of : (Ty → Ty) → Arguments → Option (Constr Ty)
block_of instance arguments.Constant = None
block_of instance (arguments.Listed types) =
    Some (record { mutable = false; fields = map instance types })
block_of instance (arguments.Inline fields) =
    Some (record { mutable = any_mutable fields; fields = map instance (types_of_fields fields) })

abbrev pub blocks_in : (Ty → Ty) → List Constructor → List (Constr Ty)
blocks_in instance all =
    filter_map (λ (constructor : Constructor). block_of instance constructor.arguments) all

-- ---- shapes

-- The representation of arrays whose element type has this head.
abbrev pub array_of : HeadOf Ty → Ty → ShapeOf Ty
array_of (heads.Variable name) t = shapes.ArrayOfVariable
array_of (heads.Predeclared bases.Any ts) t = shapes.ArrayOfAnything t
array_of head t = if is_float_head head then shapes.FloatArray else shapes.ArrayOf t

-- The representation of a predeclared type. If the number of arguments is wrong, the type has no
-- values.
abbrev pub predeclared_shape : List Decl → Predeclared → List Ty → ShapeOf Ty
predeclared_shape decls (bases.Sum k) ts = sum_shape (sum_at k) (name_at k) ts
predeclared_shape decls bases.Int [] = shapes.AnyInt
predeclared_shape decls bases.Char [] = shapes.Below 256
predeclared_shape decls bases.Bool [] = shapes.Below 2
predeclared_shape decls bases.Unit [] = shapes.Below 1
predeclared_shape decls bases.String [] = shapes.Bytes false
predeclared_shape decls bases.Bytes [] = shapes.Bytes true
predeclared_shape decls bases.Float [] = shapes.Double
predeclared_shape decls bases.Int32 [] = shapes.Int32
predeclared_shape decls bases.Int64 [] = shapes.Int64
predeclared_shape decls bases.Nativeint [] = shapes.Native
predeclared_shape decls bases.Floatarray [] = shapes.FloatArray
predeclared_shape decls bases.Any [] = shapes.Anything
predeclared_shape decls bases.Array (t ∷ []) = array_of (head decls t) t
predeclared_shape decls base ts = shapes.Variable

abbrev pub record_shape : (Ty → Ty) → List Field → Bool → ShapeOf Ty
record_shape instance fields true = shapes.FlatFloats (any_mutable fields) (length fields)
record_shape instance fields false =
    shapes.Product (any_mutable fields) (map instance (types_of_fields fields))

abbrev pub body_shape : List Decl → (Ty → Ty) → Body → ShapeOf Ty
body_shape decls instance (bodies.Abbreviation t) = shapes.Variable
body_shape decls instance (bodies.Record fields) =
    record_shape instance fields (is_flat decls fields)
body_shape decls instance (bodies.Variant constructors) =
    shapes.Sum (constants_in constructors) (blocks_in instance constructors)

abbrev pub datatype_shape : List Decl → Option Decl → List Ty → ShapeOf Ty
datatype_shape decls None ts = shapes.Variable
datatype_shape decls (Some decl) ts = body_shape decls (instance_of decl ts) decl.body

abbrev pub tag_shape : TagOf Ty → PolyTag Ty
tag_shape tag = record { hash = tag_hash tag.name; arg = tag.argument }

abbrev pub head_shape : List Decl → HeadOf Ty → ShapeOf Ty
head_shape decls (heads.Variable name) = shapes.Variable
head_shape decls (heads.Predeclared base ts) = predeclared_shape decls base ts
head_shape decls (heads.Datatype name ts) = datatype_shape decls (declaration_of decls name) ts
head_shape decls (heads.Tuple ts) = shapes.Product false ts
head_shape decls (heads.Variants tags) = shapes.Poly (map tag_shape tags)
head_shape decls heads.Absent = shapes.Variable

-- The representation of a type, which depends only on the head of the type.
abbrev pub shape : List Decl → Ty → ShapeOf Ty
shape decls t = head_shape decls (head decls t)
