-- The text around and between the parts of a value, by the names and the representation of its
-- type, and the texts of values without parts.
use Rattle.std.specs.Prelude.{ℕ, ℤ, pos, negsuc, zero, suc, Bool, List, [], ◌∷◌, ◌++◌, map}
use Rattle.std.specs.Prelude.{slice_get, find, codes}
use Rattle.std.specs.Prelude.{Option, Some, None, option_map, unwrap_or}
use Rattle.std.specs.Fmt.{signed_decimal}
use Rattle.base_data.specs.declared.model.value.Val.{Val}
use Rattle.base_data.specs.declared.model.value.Val.TheVariants as vals
use Rattle.base_data.specs.declared.model.value.Obj.{Obj}
use Rattle.base_data.specs.declared.model.value.Obj.TheVariants as objects
use Rattle.types_spec.specs.declared.types.names.ConstrNames.{ConstrNames}
use Rattle.types_spec.specs.declared.types.names.TagName.{TagName}
use Rattle.types_spec.specs.declared.types.names.Names.{Names}
use Rattle.types_spec.specs.declared.types.shape.ShapeOf.{ShapeOf}
use Rattle.types_spec.specs.declared.types.shape.ShapeOf.TheVariants as shapes
use Rattle.types_spec.specs.types.Fitting.{is_number}
use Rattle.text_print.specs.leaves.LeafTexts.{string_text, float_text, below_text, int32_text}
use Rattle.text_print.specs.leaves.LeafTexts.{int64_text}
use Rattle.text_print.specs.leaves.LeafTexts.{native_text}

-- ---- lists of parts

-- The text before all parts, before each part, between two parts, and after all parts.
pub record Frame : Type 0 where
  pub opening : List ℕ
  -- The text before each part. The list is empty if the parts have no labels.
  pub labels : List (List ℕ)
  pub between : List ℕ
  pub closing : List ℕ

abbrev pub listed : List ℕ → Frame
listed name =
    record { opening = name ++ codes "("; labels = []; between = codes ", "; closing = codes ")" }

abbrev pub fields_frame : List ℕ → List (List ℕ) → Frame
fields_frame name fields = record {
  opening = name ++ codes "{";
  labels = map (λ field. field ++ codes " = ") fields;
  between = codes "; ";
  closing = codes "}";
}

-- If the fields have no names, then the parts are those of a tuple or of a constructor. If the
-- fields have names, then the parts are those of a record.
abbrev pub named_frame : List ℕ → List (List ℕ) → Frame
named_frame name [] = listed name
named_frame name (field ∷ fields) = fields_frame name (field ∷ fields)

abbrev pub array_frame : Frame
array_frame =
    record { opening = codes "[|"; labels = []; between = codes "; "; closing = codes "|]" }

abbrev pub constr_frame : Option ConstrNames → Frame
constr_frame None = listed []
constr_frame (Some names) = named_frame names.name names.fields

-- ---- names

abbrev pub is_hash : ℤ → TagName → Bool
is_hash z tag = is_number tag.hash z

-- The name of the tag with hash `z`, with a backquote before the name.
abbrev pub tag_text : Names → ℤ → List ℕ
tag_text names z =
    codes "`"
    ++ unwrap_or (option_map (λ (tag : TagName). tag.name) (find (is_hash z) names.tags)) []

abbrev pub natural : ℤ → ℕ
natural (pos n) = n
natural (negsuc n) = 0

-- The integer in the first value of a list, or 0 if the first value is not an integer.
abbrev pub tag_of_values : List Val → ℤ
tag_of_values (vals.Int z ∷ values) = z
tag_of_values values = pos 0

-- The text of a value at a wildcard type.
abbrev pub wildcard_text : List ℕ
wildcard_text = codes "_"

module _ {T : Type 0} where
  -- ---- values without parts

  abbrev pub int_text : ShapeOf T → Names → ℤ → List ℕ
  int_text (shapes.Below many) names z = below_text many (natural z)
  int_text (shapes.Sum constants blocks) names z =
      unwrap_or (slice_get names.constants (natural z)) []
  int_text (shapes.Poly tags) names z = tag_text names z
  int_text shape names z = signed_decimal z

  -- The text of a double in an array. If the elements have a wildcard type, then the text hides the
  -- double.
  abbrev pub double_text : ShapeOf T → ℕ → List ℕ
  double_text (shapes.ArrayOfAnything t) bits = wildcard_text
  double_text shape bits = float_text bits

  -- ---- the frame of a block

  abbrev pub frame_of : ShapeOf T → Names → ℕ → List Val → Frame
  frame_of (shapes.Sum constants blocks) names tag values =
      constr_frame (slice_get names.constructors tag)
  frame_of (shapes.Product mutable ts) names tag values = named_frame [] names.fields
  frame_of (shapes.Poly tags) names tag values = listed (tag_text names (tag_of_values values))
  frame_of shape names tag values = array_frame

  abbrev pub doubles_frame : ShapeOf T → Names → Frame
  doubles_frame (shapes.FlatFloats mutable n) names = named_frame [] names.fields
  doubles_frame shape names = array_frame

-- ---- a list of parts

abbrev pub label_at : Frame → ℕ → List ℕ
label_at frame i = unwrap_or (slice_get frame.labels i) []

-- The text before part `i`: the separator, except before the first part, and the label of part `i`.
abbrev pub before_part : Frame → ℕ → List ℕ
before_part frame zero = label_at frame zero
before_part frame (suc i) = frame.between ++ label_at frame (suc i)

abbrev pub row_from : Frame → ℕ → List (List ℕ) → List ℕ
row_from frame i [] = []
row_from frame i (part ∷ parts) = before_part frame i ++ part ++ row_from frame (suc i) parts

-- The text of a list of parts in a frame.
abbrev pub row_text : Frame → List (List ℕ) → List ℕ
row_text frame parts = frame.opening ++ row_from frame 0 parts ++ frame.closing

module _ {T : Type 0} where
  abbrev pub object_text : ShapeOf T → Names → Obj → List ℕ
  object_text shape names (objects.Block tag values) = []
  object_text shape names (objects.Bytes bytes) = string_text bytes
  object_text shape names (objects.Double bits) = float_text bits
  object_text shape names (objects.Doubles all) =
      row_text (doubles_frame shape names) (map (double_text shape) all)
  object_text shape names (objects.I32 z) = int32_text z
  object_text shape names (objects.I64 z) = int64_text z
  object_text shape names (objects.Native z) = native_text z
