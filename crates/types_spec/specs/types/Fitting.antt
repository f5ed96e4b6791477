-- The values that a representation allows in a graph, generic in the types (`mlvalues.h`; Henry,
-- Mauny, Chailloux and Manoury 2012). The definitions form a table of representations by the kinds
-- of values and objects. The table determines which values match, which fields are required, and
-- which objects are mutable.
use Rattle.std.specs.Prelude.{ℕ, suc, ◌==◌, nat_lt, ◌&&◌, not, Bool, true, false, if◌then◌else◌}
use Rattle.std.specs.Prelude.{IsTrue, IsSome, List, [], ◌∷◌, length, slice_get, find, replicate}
use Rattle.std.specs.Prelude.{filter}
use Rattle.std.specs.Prelude.{Option, Some, None, is_some, option_map, option_and_then, ℤ, pos}
use Rattle.std.specs.Prelude.{negsuc}
use Rattle.base_data.specs.declared.model.value.Val.{Val}
use Rattle.base_data.specs.declared.model.value.Val.TheVariants as vals
use Rattle.base_data.specs.declared.model.value.Obj.{Obj}
use Rattle.base_data.specs.declared.model.value.Obj.TheVariants as objects
use Rattle.types_spec.specs.types.Shapes.{Shapes}
use Rattle.types_spec.specs.declared.types.shape.Constr.{Constr}
use Rattle.types_spec.specs.declared.types.shape.PolyTag.{PolyTag}
use Rattle.types_spec.specs.declared.types.shape.ShapeOf.{ShapeOf}
use Rattle.types_spec.specs.declared.types.shape.ShapeOf.TheVariants as shapes

-- ---- integers

-- The integer is at least 0 and below `k`.
abbrev pub is_below : ℕ → ℤ → Bool
is_below k (pos n) = nat_lt n k
is_below k (negsuc n) = false

abbrev pub is_number : ℤ → ℤ → Bool
is_number (pos m) (pos n) = m == n
is_number (negsuc m) (negsuc n) = m == n
is_number m n = false

-- The tag of a block, or 0 if the object is not a block.
abbrev pub tag_of_block : Option Obj → ℕ
tag_of_block (Some (objects.Block tag values)) = tag
tag_of_block object = 0

module _ {T : Type 0} where
  -- The first tag whose hash is `z`.
  abbrev pub tag_with : List (PolyTag T) → ℤ → Option (PolyTag T)
  tag_with tags z = find (λ (tag : PolyTag T). is_number tag.hash z) tags

  -- Tests whether a tag was found and has no argument.
  abbrev pub is_bare : Option (PolyTag T) → Bool
  is_bare None = false
  is_bare (Some tag) = not (is_some tag.arg)

  abbrev pub fits_int : ShapeOf T → ℤ → Bool
  fits_int shapes.AnyInt z = true
  fits_int (shapes.Below k) z = is_below k z
  fits_int (shapes.Sum constants blocks) z = is_below constants z
  fits_int (shapes.Poly tags) z = is_bare (tag_with tags z)
  fits_int shapes.Anything z = true
  fits_int shape z = false

  -- Tests whether an atom matches a representation. OCaml represents the empty array `[||]` by the
  -- atom 0.
  abbrev pub fits_atom : ShapeOf T → ℕ → Bool
  fits_atom (shapes.ArrayOf t) tag = tag == 0
  fits_atom shapes.FloatArray tag = tag == 0
  fits_atom shapes.ArrayOfVariable tag = tag == 0
  fits_atom (shapes.ArrayOfAnything t) tag = tag == 0
  fits_atom shapes.Anything tag = true
  fits_atom shape tag = false

  -- ---- the types of a block's fields, by index, if the block matches

  abbrev pub numbered_from : ℕ → List T → List (ℕ × T)
  numbered_from i [] = []
  numbered_from i (t ∷ ts) = (i, t) ∷ numbered_from (suc i) ts

  abbrev pub fields_if : Bool → List T → Option (List (ℕ × T))
  fields_if fits ts = if fits then Some (numbered_from 0 ts) else None

  abbrev pub constr_fields : ℕ → Option (Constr T) → Option (List (ℕ × T))
  constr_fields size None = None
  constr_fields size (Some constr) = fields_if (length constr.fields == size) constr.fields

  -- The typed field of a tag's block. Field 0 contains the hash and has no type, and field 1
  -- contains the argument.
  abbrev pub argument_field : Option T → Option (List (ℕ × T))
  argument_field arg = option_map (λ t. (1, t) ∷ []) arg

  abbrev pub tag_fields : List (PolyTag T) → List Val → Option (List (ℕ × T))
  tag_fields tags (vals.Int z ∷ argument ∷ []) =
      option_and_then (λ (tag : PolyTag T). argument_field tag.arg) (tag_with tags z)
  tag_fields tags values = None

  abbrev pub block_fields : ShapeOf T → ℕ → List Val → Option (List (ℕ × T))
  block_fields (shapes.Sum constants blocks) tag values =
      constr_fields (length values) (slice_get blocks tag)
  block_fields (shapes.Product mutable ts) tag values =
      fields_if ((tag == 0) && (length ts == length values)) ts
  block_fields (shapes.ArrayOf t) tag values = fields_if (tag == 0) (replicate (length values) t)
  block_fields (shapes.Poly tags) tag values = if tag == 0 then tag_fields tags values else None
  block_fields (shapes.ArrayOfAnything t) tag values =
      fields_if (tag == 0) (replicate (length values) t)
  block_fields shapes.Anything tag values = Some []
  block_fields shape tag values = None

  -- ---- objects without values in them

  abbrev pub none_if : Bool → Option (List (ℕ × T))
  none_if fits = if fits then Some [] else None

  abbrev pub is_bytes : ShapeOf T → Bool
  is_bytes (shapes.Bytes mutable) = true
  is_bytes shapes.Anything = true
  is_bytes shape = false

  abbrev pub is_double : ShapeOf T → Bool
  is_double shapes.Double = true
  is_double shapes.Anything = true
  is_double shape = false

  abbrev pub has_doubles : ShapeOf T → ℕ → Bool
  has_doubles shapes.FloatArray n = true
  has_doubles (shapes.FlatFloats mutable k) n = k == n
  has_doubles (shapes.ArrayOfAnything t) n = true
  has_doubles shapes.Anything n = true
  has_doubles shape n = false

  abbrev pub is_int32 : ShapeOf T → Bool
  is_int32 shapes.Int32 = true
  is_int32 shapes.Anything = true
  is_int32 shape = false

  abbrev pub is_int64 : ShapeOf T → Bool
  is_int64 shapes.Int64 = true
  is_int64 shapes.Anything = true
  is_int64 shape = false

  abbrev pub is_native : ShapeOf T → Bool
  is_native shapes.Native = true
  is_native shapes.Anything = true
  is_native shape = false

  -- The fields of an object that have types under the representation, or `None` if the object does
  -- not match.
  abbrev pub object_fields : ShapeOf T → Obj → Option (List (ℕ × T))
  object_fields shape (objects.Block tag values) = block_fields shape tag values
  object_fields shape (objects.Bytes bytes) = none_if (is_bytes shape)
  object_fields shape (objects.Double bits) = none_if (is_double shape)
  object_fields shape (objects.Doubles all) = none_if (has_doubles shape (length all))
  object_fields shape (objects.I32 z) = none_if (is_int32 shape)
  object_fields shape (objects.I64 z) = none_if (is_int64 shape)
  object_fields shape (objects.Native z) = none_if (is_native shape)

  -- The fields of a value that have types under the representation, or `None` if the value does not
  -- match.
  abbrev pub fields_of : List Obj → Val → ShapeOf T → Option (List (ℕ × T))
  fields_of graph (vals.Int z) shape = none_if (fits_int shape z)
  fields_of graph (vals.Atom tag) shape = none_if (fits_atom shape tag)
  fields_of graph (vals.Ref o) shape = option_and_then (object_fields shape) (slice_get graph o)

  -- ---- mutability

  abbrev pub is_mutable_block : Option (Constr T) → Bool
  is_mutable_block None = false
  is_mutable_block (Some constr) = constr.mutable

  -- Tests whether a representation makes an object mutable. The definition presupposes that the
  -- object matches the representation.
  abbrev pub is_mutable : ShapeOf T → Option Obj → Bool
  is_mutable (shapes.Bytes mutable) object = mutable
  is_mutable (shapes.Sum constants blocks) object =
      is_mutable_block (slice_get blocks (tag_of_block object))
  is_mutable (shapes.Product mutable ts) object = mutable
  is_mutable (shapes.FlatFloats mutable n) object = mutable
  is_mutable (shapes.ArrayOf t) object = true
  is_mutable shapes.FloatArray object = true
  is_mutable (shapes.ArrayOfAnything t) object = true
  is_mutable shape object = false

  abbrev pub or_none : Option (List (ℕ × T)) → List (ℕ × T)
  or_none None = []
  or_none (Some needs) = needs

  -- ---- wildcards

  -- Tests whether a representation restricts its values, which only the wildcard's representation
  -- does not.
  abbrev pub is_asked : ShapeOf T → Bool
  is_asked shapes.Anything = false
  is_asked shape = true

-- The fields whose types restrict their values.
abbrev pub asked_of : {T : Type 0} → (T → ShapeOf T) → List (ℕ × T) → List (ℕ × T)
asked_of {T} shape fields = filter (λ (field : ℕ × T). is_asked (shape field.1)) fields

-- The interface `Shapes`, made from representations of types and from a type equality. If a field's
-- type does not restrict its values, the field is not required.
abbrev pub shaped : {T : Type 0} → (T → ShapeOf T) → (T → T → Type 0) → Shapes T
shaped shape Equal = record {
  fits = λ graph v t. IsSome (fields_of graph v (shape t));
  needs = λ graph v t. asked_of shape (or_none (fields_of graph v (shape t)));
  mutable = λ graph o t.
      IsSome (fields_of graph (vals.Ref o) (shape t))
      × IsTrue (is_mutable (shape t) (slice_get graph o));
  equal = Equal;
}
