-- The requirements of the positions in a value, token by token. A position is open until the
-- position's token is read. The type of an object is required by the first position that refers to
-- the object.
use Rattle.std.specs.Prelude.{ℕ, suc, ◌-◌, ◌==◌, ◌≤◌, ◌≡◌, ◌&&◌, Bool, if◌then◌else◌, false}
use Rattle.std.specs.Prelude.{List, [], ◌∷◌, ◌++◌, length, map, replicate, slice_get}
use Rattle.std.specs.Prelude.{Option, Some, None, IsTrue, IsSome, ℤ, ◌⊎◌, Contains}
use Rattle.types_spec.specs.declared.types.shape.Constr.{Constr}
use Rattle.types_spec.specs.declared.types.shape.PolyTag.{PolyTag}
use Rattle.types_spec.specs.declared.types.shape.ShapeOf.{ShapeOf}
use Rattle.types_spec.specs.declared.types.shape.ShapeOf.TheVariants as shapes
use Rattle.types_spec.specs.types.Fitting.{tag_with, fits_int, fits_atom, object_fields, is_asked}
use Rattle.types_spec.specs.types.Table.{Table, node_or_none, table_shapes, is_asked_in}
use Rattle.marshal_spec.specs.format.Token.{Token, integer, atom, shared, block, leaf}

-- The requirement of a position: a value of a type, or the hash of a tag that has an argument.
pub data Need : Type 0 where
  of_type : ℕ → Need
  hash_of : List (PolyTag ℕ) → Need

-- The number of values that are still to be read for the open positions. A requirement for a hash
-- takes two values: the hash and its argument.
abbrev pub values_in : List Need → ℕ
values_in [] = 0
values_in (of_type t ∷ needs) = suc (values_in needs)
values_in (hash_of tags ∷ needs) = suc (suc (values_in needs))

abbrev pub shape_at : Table → ℕ → ShapeOf ℕ
shape_at table t = node_or_none (slice_get table.nodes t)

-- ---- the requirements of a block's fields in order, if the block matches the type

abbrev pub needs_if : Bool → List ℕ → Option (List Need)
needs_if fits ts = if fits then Some (map of_type ts) else None

abbrev pub constr_needs : ℕ → Option (Constr ℕ) → Option (List Need)
constr_needs size None = None
constr_needs size (Some constr) = needs_if (length constr.fields == size) constr.fields

-- The requirements of a block's fields at a type of this shape. The requirement for the argument of
-- a tag is added when the hash is known.
abbrev pub block_needs : ShapeOf ℕ → ℕ → ℕ → Option (List Need)
block_needs (shapes.Sum constants blocks) tag size = constr_needs size (slice_get blocks tag)
block_needs (shapes.Product mutable ts) tag size = needs_if ((tag == 0) && (length ts == size)) ts
block_needs (shapes.ArrayOf t) tag size = needs_if (tag == 0) (replicate size t)
block_needs (shapes.Poly tags) tag size =
    if (tag == 0) && (size == 2) then Some (hash_of tags ∷ []) else None
block_needs (shapes.ArrayOfAnything t) tag size = needs_if (tag == 0) (replicate size t)
block_needs shape tag size = None

-- The type is a wildcard: any value has the type.
abbrev pub IsWildcard : Table → ℕ → Type 0
IsWildcard table t = is_asked_in table t ≡ false

-- The requirements of a block's fields at a type of this shape. If the type is a wildcard, the
-- requirement of each field is the wildcard type.
abbrev pub shape_asks : ShapeOf ℕ → ℕ → ℕ → ℕ → Option (List Need)
shape_asks shape t tag size =
    if is_asked shape then block_needs shape tag size else Some (map of_type (replicate size t))

abbrev pub fields_ask : Table → ℕ → ℕ → ℕ → Option (List Need)
fields_ask table t tag size = shape_asks (shape_at table t) t tag size

-- ---- the requirement of a position and a token

-- A reference leads back to an object whose first type or one of whose recorded second types equals
-- `t`.
pub record IsBack
    (noted : List (ℕ × ℕ)) (table : Table) (types : List ℕ) (t offset : ℕ)
    : Type 0 where
  pub some : 1 ≤ offset
  pub few : offset ≤ length types
  pub type : ℕ
  pub at :
      (slice_get types (length types - offset) ≡ Some type)
      ⊎ Contains noted (length types - offset, type)
  pub equal : (table_shapes table).equal type t

-- A reference back satisfies the requirement of a position of the type. If the type is a wildcard,
-- every reference satisfies the requirement.
abbrev pub IsBackAt : List (ℕ × ℕ) → Table → List ℕ → ℕ → ℕ → Type 0
IsBackAt noted table types t offset = IsWildcard table t ⊎ IsBack noted table types t offset

-- The tag with this hash has an argument, and the argument's type is the next requirement.
pub record IsTagged (tags : List (PolyTag ℕ)) (z : ℤ) (next : List Need) : Type 0 where
  pub tag : PolyTag ℕ
  pub has_hash : tag_with tags z ≡ Some tag
  pub type : ℕ
  pub has_argument : tag.arg ≡ Some type
  pub argument : next ≡ of_type type ∷ []

-- After objects of these types the token satisfies the requirement of its position. The
-- requirements `next` of the token's fields precede all other open requirements.
abbrev pub Asks : List (ℕ × ℕ) → Table → List ℕ → Need → Token → List Need → Type 0
Asks noted table types (of_type t) (integer z) next =
    IsTrue (fits_int (shape_at table t) z) × (next ≡ [])
Asks noted table types (of_type t) (atom tag) next =
    IsTrue (fits_atom (shape_at table t) tag) × (next ≡ [])
Asks noted table types (of_type t) (shared offset) next =
    IsBackAt noted table types t offset × (next ≡ [])
Asks noted table types (of_type t) (block tag size) next =
    fields_ask table t tag size ≡ Some next
Asks noted table types (of_type t) (leaf object) next =
    IsSome (object_fields (shape_at table t) object) × (next ≡ [])
Asks noted table types (hash_of tags) (integer z) next = IsTagged tags z next
Asks noted table types (hash_of tags) (atom tag) next = ⊥
Asks noted table types (hash_of tags) (shared offset) next = ⊥
Asks noted table types (hash_of tags) (block tag size) next = ⊥
Asks noted table types (hash_of tags) (leaf object) next = ⊥

-- The list with the type of the object that a token creates at a position. If the token creates no
-- object, the list is empty.
abbrev pub type_in : Need → Token → List ℕ
type_in (of_type t) (integer z) = []
type_in (of_type t) (atom tag) = []
type_in (of_type t) (shared offset) = []
type_in (of_type t) (block tag size) = t ∷ []
type_in (of_type t) (leaf object) = t ∷ []
type_in (hash_of tags) token = []

-- Starting with objects of these types and these open positions, the tokens satisfy all
-- requirements, and no position is open at the end. After the last token the objects have the types
-- `all`.
abbrev pub Passes :
    List (ℕ × ℕ) → Table → List ℕ → List Need → List Token → List ℕ → Type 0
Passes noted table types [] [] all = types ≡ all
Passes noted table types [] (token ∷ tokens) all = ⊥
Passes noted table types (need ∷ needs) [] all = ⊥
Passes noted table types (need ∷ needs) (token ∷ tokens) all =
    (next : List Need) × Asks noted table types need token next
    × Passes noted table (types ++ type_in need token) (next ++ needs) tokens all
