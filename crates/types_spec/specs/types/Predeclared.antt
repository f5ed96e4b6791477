-- The predeclared types, as the rows of one table. The rows follow the OCaml manual ("The core
-- library"), and `stdlib.ml` for `option`, `ref` and the constructors of lists.
use Rattle.std.specs.Prelude.{ℕ, zero, suc, Bool, true, false, if◌then◌else◌, List, [], ◌∷◌, map}
use Rattle.std.specs.Prelude.{length, Option, Some, None, slice_get, slice_index_or, codes}
use Rattle.std.specs.Str.{bytes_eq}
use Rattle.types_spec.specs.declared.types.decl.Predeclared.{Predeclared}
use Rattle.types_spec.specs.declared.types.decl.Predeclared.TheVariants as bases
use Rattle.types_spec.specs.declared.types.predeclared.SumField.{SumField}
use Rattle.types_spec.specs.declared.types.predeclared.SumField.TheVariants as members
use Rattle.types_spec.specs.declared.types.shape.Constr.{Constr}
use Rattle.types_spec.specs.declared.types.shape.ShapeOf.{ShapeOf}
use Rattle.types_spec.specs.declared.types.shape.ShapeOf.TheVariants as shapes
use Rattle.types_spec.specs.types.Ty.{Ty, named, part}

-- ---- rows

-- A constructor with arguments of a predeclared variant.
pub record SumBlock : Type 0 where
  pub name : List ℕ
  pub mutable : Bool
  pub fields : List SumField

-- A predeclared variant: its number of parameters, its constant constructors, and its constructors
-- with arguments, in the order of their tags.
pub record Sum : Type 0 where
  pub parameters : ℕ
  pub constants : List (List ℕ)
  pub blocks : List SumBlock

-- The meaning of a predeclared name: a type with a representation of its own, or a variant.
pub data Meaning : Type 0 where
  base : Predeclared → Meaning
  sum : Sum → Meaning

pub record PredeclaredRow : Type 0 where
  pub name : List ℕ
  pub meaning : Meaning

abbrev pub base_row : List ℕ → Predeclared → PredeclaredRow
base_row name meant = record { name = name; meaning = base meant }

abbrev pub sum_row : List ℕ → ℕ → List (List ℕ) → List SumBlock → PredeclaredRow
sum_row name parameters constants blocks = record {
  name = name;
  meaning = sum (record { parameters = parameters; constants = constants; blocks = blocks });
}

abbrev pub sum_block : List ℕ → Bool → List SumField → SumBlock
sum_block name mutable fields = record { name = name; mutable = mutable; fields = fields }

-- The table. The head of a variant contains the number of the variant's row, so a new row must be
-- the last row.
abbrev pub rows : List PredeclaredRow
rows =
    base_row (codes "int") bases.Int ∷ base_row (codes "char") bases.Char
    ∷ base_row (codes "bool") bases.Bool ∷ base_row (codes "unit") bases.Unit
    ∷ base_row (codes "string") bases.String ∷ base_row (codes "bytes") bases.Bytes
    ∷ base_row (codes "float") bases.Float ∷ base_row (codes "int32") bases.Int32
    ∷ base_row (codes "int64") bases.Int64 ∷ base_row (codes "nativeint") bases.Nativeint
    ∷ base_row (codes "floatarray") bases.Floatarray
    ∷ sum_row (codes "list") 1 (codes "[]" ∷ [])
    (sum_block (codes "::") false (members.Argument 0 ∷ members.Itself ∷ []) ∷ [])
    ∷ sum_row (codes "option") 1 (codes "None" ∷ [])
    (sum_block (codes "Some") false (members.Argument 0 ∷ []) ∷ [])
    ∷ base_row (codes "array") bases.Array
    ∷ sum_row (codes "ref") 1 []
    (sum_block (codes "ref") true (members.Argument 0 ∷ []) ∷ [])
    ∷ base_row (codes "_") bases.Any ∷ []

-- ---- names

-- The type that the meaning in row `k` denotes.
abbrev pub meant : ℕ → Meaning → Predeclared
meant k (base known) = known
meant k (sum known) = bases.Sum k

-- The type of the first row that has the name. The first row has the number `k`.
abbrev pub predeclared_from : ℕ → List PredeclaredRow → List ℕ → Option Predeclared
predeclared_from k [] name = None
predeclared_from k (row ∷ more) name =
    if bytes_eq row.name name then Some (meant k row.meaning)
    else predeclared_from (suc k) more name

-- ---- variants

abbrev pub sum_of : Meaning → Option Sum
sum_of (base known) = None
sum_of (sum known) = Some known

abbrev pub sum_in : Option PredeclaredRow → Option Sum
sum_in None = None
sum_in (Some row) = sum_of row.meaning

-- The variant in row `k`.
unfoldable pub sum_at : ℕ → Option Sum
sum_at k = sum_in (slice_get rows k)

abbrev pub name_in : Option PredeclaredRow → List ℕ
name_in None = []
name_in (Some row) = row.name

-- The name in row `k`.
unfoldable pub name_at : ℕ → List ℕ
name_at k = name_in (slice_get rows k)

abbrev pub sum_parameters : Option Sum → ℕ
sum_parameters None = 0
sum_parameters (Some known) = known.parameters

-- ---- representations

-- The list has `n` elements.
abbrev pub takes : {T : Type 0} → ℕ → List T → Bool
takes zero [] = true
takes (suc n) (t ∷ ts) = takes n ts
takes n ts = false

-- The type with these arguments.
abbrev pub applied : Ty → List Ty → Ty
applied whole [] = whole
applied whole (t ∷ ts) = applied (part whole t) ts

-- The type of a field of the variant with this name and these arguments. If argument `i` does not
-- exist, the type is that of the variant itself. No row of the table has a field with a missing
-- argument.
abbrev pub member_type : List ℕ → List Ty → SumField → Ty
member_type name ts (members.Argument i) = slice_index_or ts i (applied (named name) ts)
member_type name ts members.Itself = applied (named name) ts

abbrev pub constr_of : List ℕ → List Ty → SumBlock → Constr Ty
constr_of name ts block =
    record { mutable = block.mutable; fields = map (member_type name ts) block.fields }

abbrev pub shape_if : Bool → Sum → List ℕ → List Ty → ShapeOf Ty
shape_if false known name ts = shapes.Variable
shape_if true known name ts =
    shapes.Sum (length known.constants) (map (constr_of name ts) known.blocks)

-- The representation of a variant. If the number of arguments is wrong, the variant has no values.
abbrev pub sum_shape : Option Sum → List ℕ → List Ty → ShapeOf Ty
sum_shape None name ts = shapes.Variable
sum_shape (Some known) name ts = shape_if (takes known.parameters ts) known name ts
