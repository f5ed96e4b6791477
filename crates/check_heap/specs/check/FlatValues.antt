-- Objects with few parts that have no parts. The fast path decides that such an object has its
-- type.
use Rattle.std.specs.Prelude.{ℕ, ◌≡◌, ◌<◌, ◌&&◌, nat_lt, nat_le, Bool, true, false}
use Rattle.std.specs.Prelude.{if◌then◌else◌, List, [], ◌∷◌, length, slice_get}
use Rattle.std.specs.Prelude.{Option, Some, None, option_and_then, is_some}
use Rattle.base_data.specs.declared.model.value.Val.{Val}
use Rattle.base_data.specs.declared.model.value.Val.TheVariants as vals
use Rattle.base_data.specs.declared.model.value.Obj.{Obj}
use Rattle.types_spec.specs.declared.types.shape.ShapeOf.{ShapeOf}
use Rattle.types_spec.specs.declared.types.shape.ShapeOf.TheVariants as shapes
use Rattle.types_spec.specs.types.Fitting.{fields_of}
use Rattle.types_spec.specs.types.Table.{Table, table_shapes, typed_fields, node_or_none}
use Rattle.types_spec.specs.types.Table.{is_asked_in}
use Rattle.types_spec.specs.types.Typing.{field_at}

-- The value matches the type's representation. If the value is an object, the value has no fields
-- with types, and becomes the last object. The number of the new last object is greater than
-- `last`.
abbrev pub IsFlat : Table → List Obj → Val → ℕ → ℕ → ℕ → Type 0
IsFlat table graph (vals.Int z) t last next = (table_shapes table).fits graph (vals.Int z) t
IsFlat table graph (vals.Atom tag) t last next = (table_shapes table).fits graph (vals.Atom tag) t
IsFlat table graph (vals.Ref o) t last next =
    (table_shapes table).fits graph (vals.Ref o) t × (last < o) × (o ≡ next)
    × (typed_fields table graph (vals.Ref o) t ≡ [])

-- ---- whether all parts are flat

-- The last object after a value whose fields with types are `fields`. If the value is an object,
-- the value becomes the last object, must have no typed fields, and must have a number greater than
-- `last`.
abbrev pub last_with : Val → ℕ → List (ℕ × ℕ) → Option ℕ
last_with (vals.Int z) last fields = Some last
last_with (vals.Atom tag) last fields = Some last
last_with (vals.Ref o) last [] = if nat_lt last o then Some o else None
last_with (vals.Ref o) last (field ∷ fields) = None

-- The last object after a part at type `t`. If the type is constrained, the part must match the
-- type.
abbrev pub last_behind : Table → List Obj → ℕ → ℕ → Val → Option ℕ
last_behind table graph t last v =
    if is_asked_in table t then option_and_then (last_with v last)
    (fields_of graph v (node_or_none (slice_get table.nodes t)))
    else Some last

-- The last object after the parts `parts` of object `o`, one after another.
abbrev pub last_of_all : Table → List Obj → ℕ → List (ℕ × ℕ) → ℕ → Option ℕ
last_of_all table graph o [] last = Some last
last_of_all table graph o (part ∷ parts) last =
    option_and_then (λ (next : ℕ). last_of_all table graph o parts next)
    (option_and_then (last_behind table graph part.1 last) (field_at graph o part.0))

-- The object has at most eight parts at type 0, including those at unconstrained types, and all
-- parts are flat.
abbrev pub are_few_and_flat : Table → List Obj → ℕ → Bool
are_few_and_flat table graph o =
    let parts = typed_fields table graph (vals.Ref o) 0 in
    nat_le (length parts) 8 && is_some (last_of_all table graph o parts o)

-- The shape of blocks whose fields are listed one by one.
abbrev pub is_of_blocks : ShapeOf ℕ → Bool
is_of_blocks (shapes.Product mutable types) = true
is_of_blocks (shapes.Sum constants blocks) = true
is_of_blocks shape = false

-- The object has a shape of blocks and matches type 0, and the object's parts are flat.
abbrev pub is_sure : Table → List Obj → Val → Bool
is_sure table graph (vals.Int z) = false
is_sure table graph (vals.Atom tag) = false
is_sure table graph (vals.Ref o) =
    let shape = node_or_none (slice_get table.nodes 0) in
    is_of_blocks shape
    && (is_some (fields_of graph (vals.Ref o) shape) && are_few_and_flat table graph o)
