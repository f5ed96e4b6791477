-- A table of types: types by number, with representations whose parts are numbers, and equivalence
-- classes of equal types. The table is this project's own.
use Rattle.std.specs.Prelude.{ℕ, ◌≡◌, Bool, List, length, map, Option, Some, None, option_map}
use Rattle.std.specs.Prelude.{slice_get}
use Rattle.base_data.specs.declared.model.value.Val.{Val}
use Rattle.base_data.specs.declared.model.value.Obj.{Obj}
use Rattle.types_spec.specs.types.Shapes.{Shapes}
use Rattle.types_spec.specs.declared.types.decl.Decl.{Decl}
use Rattle.types_spec.specs.declared.types.head.TagOf.{TagOf}
use Rattle.types_spec.specs.declared.types.head.HeadOf.{HeadOf}
use Rattle.types_spec.specs.declared.types.head.HeadOf.TheVariants as heads
use Rattle.types_spec.specs.declared.types.shape.Constr.{Constr}
use Rattle.types_spec.specs.declared.types.shape.PolyTag.{PolyTag}
use Rattle.types_spec.specs.declared.types.shape.ShapeOf.{ShapeOf}
use Rattle.types_spec.specs.declared.types.shape.ShapeOf.TheVariants as shapes
use Rattle.types_spec.specs.types.Ty.{Ty}
use Rattle.types_spec.specs.types.Head.{head}
use Rattle.types_spec.specs.types.Shape.{shape}
use Rattle.types_spec.specs.types.Fitting.{fields_of, or_none, is_asked, shaped}
use Rattle.types_spec.specs.types.Equal.{Equal}

-- ---- representations with other parts

abbrev pub constr_with : {T U : Type 0} → (T → U) → Constr T → Constr U
constr_with f constr = record { mutable = constr.mutable; fields = map f constr.fields }

abbrev pub tag_with_parts : {T U : Type 0} → (T → U) → PolyTag T → PolyTag U
tag_with_parts f tag = record { hash = tag.hash; arg = option_map f tag.arg }

-- The representation in which `f` replaces each type.
abbrev pub with_parts : {T U : Type 0} → (T → U) → ShapeOf T → ShapeOf U
with_parts f shapes.AnyInt = shapes.AnyInt
with_parts f (shapes.Below k) = shapes.Below k
with_parts f (shapes.Bytes mutable) = shapes.Bytes mutable
with_parts f shapes.Double = shapes.Double
with_parts f shapes.Int32 = shapes.Int32
with_parts f shapes.Int64 = shapes.Int64
with_parts f shapes.Native = shapes.Native
with_parts f (shapes.Sum constants blocks) = shapes.Sum constants (map (constr_with f) blocks)
with_parts f (shapes.Product mutable ts) = shapes.Product mutable (map f ts)
with_parts f (shapes.FlatFloats mutable n) = shapes.FlatFloats mutable n
with_parts f (shapes.ArrayOf t) = shapes.ArrayOf (f t)
with_parts f shapes.FloatArray = shapes.FloatArray
with_parts f (shapes.Poly tags) = shapes.Poly (map (tag_with_parts f) tags)
with_parts f shapes.Variable = shapes.Variable
with_parts f shapes.ArrayOfVariable = shapes.ArrayOfVariable
with_parts f shapes.Anything = shapes.Anything
with_parts f (shapes.ArrayOfAnything t) = shapes.ArrayOfAnything (f t)

-- ---- heads with other parts

abbrev pub tag_with_part : {T U : Type 0} → (T → U) → TagOf T → TagOf U
tag_with_part f tag = record { name = tag.name; argument = option_map f tag.argument }

-- The head in which `f` replaces each part.
abbrev pub head_with_parts : {T U : Type 0} → (T → U) → HeadOf T → HeadOf U
head_with_parts f (heads.Variable name) = heads.Variable name
head_with_parts f (heads.Predeclared base ts) = heads.Predeclared base (map f ts)
head_with_parts f (heads.Datatype name ts) = heads.Datatype name (map f ts)
head_with_parts f (heads.Tuple ts) = heads.Tuple (map f ts)
head_with_parts f (heads.Variants tags) = heads.Variants (map (tag_with_part f) tags)
head_with_parts f heads.Absent = heads.Absent

abbrev pub head_or_absent : Option (HeadOf ℕ) → HeadOf ℕ
head_or_absent None = heads.Absent
head_or_absent (Some head) = head

-- The head with index `i` in a list of heads whose parts are numbers.
abbrev pub head_at : List (HeadOf ℕ) → ℕ → HeadOf ℕ
head_at all i = head_or_absent (slice_get all i)

-- The list `all` contains the heads of `types`. The parts of the heads in `all` are indices into
-- `types`.
abbrev pub AreHeadsOf : List Decl → List Ty → List (HeadOf ℕ) → Type 0
AreHeadsOf decls types all =
    map (head_with_parts (slice_get types)) all
    ≡ map (λ t. head_with_parts Some (head decls t)) types

-- ---- tables

-- A table of types: for each number, the representation of the type, whose parts are numbers, and
-- the class of the type.
pub record Table : Type 0 where
  pub nodes : List (ShapeOf ℕ)
  pub classes : List ℕ

-- The representation at a number. If the number is outside the table, no value matches the
-- representation.
abbrev pub node_or_none : Option (ShapeOf ℕ) → ShapeOf ℕ
node_or_none None = shapes.Variable
node_or_none (Some node) = node

-- The representations of types by number. Two numbers are equal if they are in one class.
abbrev pub table_shapes : Table → Shapes ℕ
table_shapes table =
    shaped (λ i. node_or_none (slice_get table.nodes i))
    (λ i j. slice_get table.classes i ≡ slice_get table.classes j)

-- The fields of a value that have types at the number `i`, each as the field's index and the number
-- of its type.
abbrev pub typed_fields : Table → List Obj → Val → ℕ → List (ℕ × ℕ)
typed_fields table graph v i = or_none (fields_of graph v (node_or_none (slice_get table.nodes i)))

-- Tests whether the type with the number `i` restricts its values. A field is required only if the
-- field's type restricts its values.
abbrev pub is_asked_in : Table → ℕ → Bool
is_asked_in table i = is_asked (node_or_none (slice_get table.nodes i))

-- The table contains the representations of `types`. Two types are in one class if and only if the
-- two types are equal.
pub record IsTableOf (decls : List Decl) (types : List Ty) (table : Table) : Type 0 where
  pub many : length table.classes ≡ length types
  -- The representations of the types, in which numbers stand for types.
  pub nodes :
      map (with_parts (slice_get types)) table.nodes
      ≡ map (λ t. with_parts Some (shape decls t)) types
  pub same_class :
      (i j : ℕ) (t u : Ty) → slice_get types i ≡ Some t → slice_get types j ≡ Some u
      → slice_get table.classes i ≡ slice_get table.classes j → Equal decls t u
  pub equal_types :
      (i j : ℕ) (t u : Ty) → slice_get types i ≡ Some t → slice_get types j ≡ Some u
      → Equal decls t u → slice_get table.classes i ≡ slice_get table.classes j
