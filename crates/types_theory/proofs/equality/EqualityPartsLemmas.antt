-- If `f` maps the parts of a shape, the result requires the same fields as the shape, at the mapped
-- parts.
use Rattle.std.proofs.Common.{ℕ, zero, suc, ◌≡◌, ◌∙◌, List, [], ◌∷◌, length, Bool, true, false}
use Rattle.std.proofs.Common.{Option, Some, None, refl, ap}
use Rattle.std.specs.Prelude.{map, slice_get, option_map, option_and_then, replicate, if◌then◌else◌}
use Rattle.std.specs.Prelude.{◌==◌, ◌&&◌, ℤ, is_some, not}
use Rattle.base_data.specs.declared.model.value.Val.{Val}
use Rattle.base_data.specs.declared.model.value.Val.TheVariants as vals
use Rattle.base_data.specs.declared.model.value.Obj.{Obj}
use Rattle.base_data.specs.declared.model.value.Obj.TheVariants as objects
use Rattle.types_spec.specs.declared.types.shape.ShapeOf.TheVariants as shapes
use Rattle.types_spec.specs.declared.types.shape.Constr.{Constr}
use Rattle.types_spec.specs.declared.types.shape.PolyTag.{PolyTag}
use Rattle.types_spec.specs.declared.types.shape.ShapeOf.{ShapeOf}
use Rattle.types_spec.specs.types.Table.{with_parts}
use Rattle.types_spec.specs.types.Fitting.{is_number, tag_with, is_bare, fits_int, fits_atom, numbered_from}
use Rattle.types_spec.specs.types.Fitting.{fields_if, constr_fields, argument_field, tag_fields}
use Rattle.types_spec.specs.types.Fitting.{block_fields, none_if, is_double, is_bytes, has_doubles}
use Rattle.types_spec.specs.types.Fitting.{is_int32, is_int64, is_native, object_fields, fields_of}
use Rattle.types_spec.specs.types.Fitting.{is_mutable, is_mutable_block, tag_of_block, is_asked}

module _ {T U : Type 0} (f : T → U) where
  abbrev need : ℕ × T → ℕ × U
  need n = (n.0, f n.1)

  abbrev constr : Constr T → Constr U
  constr c = record { mutable = c.mutable; fields = map f c.fields }

  abbrev polytag : PolyTag T → PolyTag U
  polytag t = record { hash = t.hash; arg = option_map f t.arg }

  abbrev Mapped : Option (List (ℕ × U)) → Option (List (ℕ × T)) → Type 0
  Mapped one other = one ≡ option_map (λ all. map need all) other

  numbered_mapped :
      (i : ℕ) (ts : List T) → numbered_from i (map f ts) ≡ map need (numbered_from i ts)
  numbered_mapped i [] = refl
  numbered_mapped i (t ∷ ts) = ap (λ rest. (i, f t) ∷ rest) (numbered_mapped (suc i) ts)

  fields_mapped : (test : Bool) (ts : List T) → Mapped (fields_if test (map f ts))
      (fields_if test ts)
  fields_mapped true ts = ap Some (numbered_mapped 0 ts)
  fields_mapped false ts = refl

  length_mapped : (ts : List T) → length (map f ts) ≡ length ts
  length_mapped [] = refl
  length_mapped (t ∷ ts) = ap suc (length_mapped ts)

  constr_at : (blocks : List (Constr T)) (k : ℕ) → slice_get (map constr blocks) k ≡ option_map
      constr (slice_get blocks k)
  constr_at [] zero = refl
  constr_at [] (suc k) = refl
  constr_at (c ∷ blocks) zero = refl
  constr_at (c ∷ blocks) (suc k) = constr_at blocks k

  constr_mapped : (size : ℕ) (c : Option (Constr T))
      → Mapped (constr_fields size (option_map constr c)) (constr_fields size c)
  constr_mapped size None = refl
  constr_mapped size (Some c) =
      ap (λ n. fields_if (n == size) (map f c.fields)) (length_mapped c.fields)
      ∙ fields_mapped (length c.fields == size) c.fields

  found_by : (test : Bool) (t : PolyTag T) (one : Option (PolyTag U)) (other : Option (PolyTag T))
      → one ≡ option_map polytag other → (if test then Some (polytag t) else one) ≡ option_map
      polytag (if test then Some t else other)
  found_by true t one other same = refl
  found_by false t one other same = same

  tag_mapped : (tags : List (PolyTag T)) (z : ℤ) → tag_with (map polytag tags) z ≡ option_map
      polytag (tag_with tags z)
  tag_mapped [] z = refl
  tag_mapped (t ∷ tags) z =
      found_by (is_number t.hash z) t (tag_with (map polytag tags) z) (tag_with tags z)
      (tag_mapped tags z)

  argument_mapped : (a : Option T) → Mapped (argument_field (option_map f a)) (argument_field a)
  argument_mapped None = refl
  argument_mapped (Some t) = refl

  argument_of_tag :
      (found : Option (PolyTag T))
      → Mapped (option_and_then (λ (t : PolyTag U). argument_field t.arg)
      (option_map polytag found)) (option_and_then (λ (t : PolyTag T). argument_field t.arg) found)
  argument_of_tag None = refl
  argument_of_tag (Some t) = argument_mapped t.arg

  tag_fields_mapped :
      (tags : List (PolyTag T)) (values : List Val) → Mapped (tag_fields (map polytag tags) values)
      (tag_fields tags values)
  tag_fields_mapped tags (vals.Int z ∷ argument ∷ []) =
      ap (option_and_then (λ (t : PolyTag U). argument_field t.arg)) (tag_mapped tags z)
      ∙ argument_of_tag (tag_with tags z)
  tag_fields_mapped tags values = refl

  if_mapped : (test : Bool) (one : Option (List (ℕ × U))) (other : Option (List (ℕ × T)))
      → Mapped one other → Mapped (if test then one else None) (if test then other else None)
  if_mapped true one other same = same
  if_mapped false one other same = refl

  replicate_mapped : (n : ℕ) (t : T) → replicate n (f t) ≡ map f (replicate n t)
  replicate_mapped zero t = refl
  replicate_mapped (suc n) t = ap (λ ts. f t ∷ ts) (replicate_mapped n t)

  block_mapped : (shape : ShapeOf T) (tag : ℕ) (values : List Val)
      → Mapped (block_fields (with_parts f shape) tag values) (block_fields shape tag values)
  block_mapped (shapes.Sum constants blocks) tag values =
      ap (constr_fields (length values)) (constr_at blocks tag) ∙ constr_mapped (length values)
      (slice_get blocks tag)
  block_mapped (shapes.Product mutable ts) tag values =
      ap (λ n. fields_if ((tag == 0) && (n == length values)) (map f ts)) (length_mapped ts)
      ∙ fields_mapped ((tag == 0) && (length ts == length values)) ts
  block_mapped (shapes.ArrayOf t) tag values =
      ap (fields_if (tag == 0)) (replicate_mapped (length values) t)
      ∙ fields_mapped (tag == 0) (replicate (length values) t)
  block_mapped (shapes.ArrayOfAnything t) tag values =
      ap (fields_if (tag == 0)) (replicate_mapped (length values) t)
      ∙ fields_mapped (tag == 0) (replicate (length values) t)
  block_mapped (shapes.Poly tags) tag values =
      if_mapped (tag == 0) (tag_fields (map polytag tags) values) (tag_fields tags values)
      (tag_fields_mapped tags values)
  block_mapped shape tag values = refl

  -- ---- the other functions do not depend on parts

  double_same : (shape : ShapeOf T) → is_double (with_parts f shape) ≡ is_double shape
  double_same shapes.Double = refl
  double_same shape = refl

  bytes_same : (shape : ShapeOf T) → is_bytes (with_parts f shape) ≡ is_bytes shape
  bytes_same (shapes.Bytes mutable) = refl
  bytes_same shape = refl

  doubles_same : (shape : ShapeOf T) (n : ℕ) → has_doubles (with_parts f shape) n ≡ has_doubles
      shape n
  doubles_same shapes.FloatArray n = refl
  doubles_same (shapes.FlatFloats mutable k) n = refl
  doubles_same shape n = refl

  int32_same : (shape : ShapeOf T) → is_int32 (with_parts f shape) ≡ is_int32 shape
  int32_same shapes.Int32 = refl
  int32_same shape = refl

  int64_same : (shape : ShapeOf T) → is_int64 (with_parts f shape) ≡ is_int64 shape
  int64_same shapes.Int64 = refl
  int64_same shape = refl

  native_same : (shape : ShapeOf T) → is_native (with_parts f shape) ≡ is_native shape
  native_same shapes.Native = refl
  native_same shape = refl

  bare_same : (found : Option (PolyTag T)) → is_bare (option_map polytag found) ≡ is_bare found
  bare_same None = refl
  bare_same (Some t) = ap not (some_same t.arg) where
    some_same : (a : Option T) → is_some (option_map f a) ≡ is_some a
    some_same None = refl
    some_same (Some t) = refl

  int_same : (shape : ShapeOf T) (z : ℤ) → fits_int (with_parts f shape) z ≡ fits_int shape z
  int_same (shapes.Poly tags) z = ap is_bare (tag_mapped tags z) ∙ bare_same (tag_with tags z)
  int_same (shapes.Sum constants blocks) z = refl
  int_same shapes.AnyInt z = refl
  int_same (shapes.Below k) z = refl
  int_same shape z = refl

  atom_same : (shape : ShapeOf T) (tag : ℕ) → fits_atom (with_parts f shape) tag ≡ fits_atom shape
      tag
  atom_same (shapes.ArrayOf t) tag = refl
  atom_same shapes.FloatArray tag = refl
  atom_same shapes.ArrayOfVariable tag = refl
  atom_same shape tag = refl

  pub asked_same : (shape : ShapeOf T) → is_asked (with_parts f shape) ≡ is_asked shape
  asked_same shapes.Anything = refl
  asked_same shape = refl

  none_mapped : (one other : Bool) → one ≡ other → Mapped (none_if one) (none_if other)
  none_mapped one other same = ap none_if same ∙ fields_mapped other []

  object_mapped : (shape : ShapeOf T) (object : Obj)
      → Mapped (object_fields (with_parts f shape) object) (object_fields shape object)
  object_mapped shape (objects.Block tag values) = block_mapped shape tag values
  object_mapped shape (objects.Bytes bytes) =
      none_mapped (is_bytes (with_parts f shape)) (is_bytes shape) (bytes_same shape)
  object_mapped shape (objects.Double bits) =
      none_mapped (is_double (with_parts f shape)) (is_double shape) (double_same shape)
  object_mapped shape (objects.Doubles all) =
      none_mapped (has_doubles (with_parts f shape) (length all)) (has_doubles shape (length all))
      (doubles_same shape (length all))
  object_mapped shape (objects.I32 z) =
      none_mapped (is_int32 (with_parts f shape)) (is_int32 shape) (int32_same shape)
  object_mapped shape (objects.I64 z) =
      none_mapped (is_int64 (with_parts f shape)) (is_int64 shape) (int64_same shape)
  object_mapped shape (objects.Native z) =
      none_mapped (is_native (with_parts f shape)) (is_native shape) (native_same shape)

  at_object : (shape : ShapeOf T) (object : Option Obj)
      → Mapped (option_and_then (object_fields (with_parts f shape)) object)
      (option_and_then (object_fields shape) object)
  at_object shape None = refl
  at_object shape (Some object) = object_mapped shape object

  pub fields_of_mapped :
      (graph : List Obj) (v : Val) (shape : ShapeOf T)
      → Mapped (fields_of graph v (with_parts f shape)) (fields_of graph v shape)
  fields_of_mapped graph (vals.Int z) shape =
      none_mapped (fits_int (with_parts f shape) z) (fits_int shape z) (int_same shape z)
  fields_of_mapped graph (vals.Atom tag) shape =
      none_mapped (fits_atom (with_parts f shape) tag) (fits_atom shape tag) (atom_same shape tag)
  fields_of_mapped graph (vals.Ref o) shape = at_object shape (slice_get graph o)

  block_same : (c : Option (Constr T)) → is_mutable_block (option_map constr c) ≡ is_mutable_block c
  block_same None = refl
  block_same (Some c) = refl

  pub mutable_same :
      (shape : ShapeOf T) (object : Option Obj) → is_mutable (with_parts f shape)
      object ≡ is_mutable shape object
  mutable_same (shapes.Sum constants blocks) object =
      ap is_mutable_block (constr_at blocks (tag_of_block object))
      ∙ block_same (slice_get blocks (tag_of_block object))
  mutable_same (shapes.Bytes mutable) object = refl
  mutable_same (shapes.Product mutable ts) object = refl
  mutable_same (shapes.FlatFloats mutable n) object = refl
  mutable_same shape object = refl
