-- The lines of an untyped graph: one line for the root, and one line for each object in the order
-- of the objects' numbers.
use Rattle.std.specs.Prelude.{ℕ, List, ◌++◌, codes, decimal}
use Rattle.std.specs.List.{flat_map}
use Rattle.std.specs.Fmt.{signed_decimal}
use Rattle.base_data.specs.declared.model.code.Custom.{Custom}
use Rattle.base_data.specs.declared.model.code.Custom.TheVariants as customs
use Rattle.base_data.specs.declared.model.value.Val.{Val}
use Rattle.base_data.specs.declared.model.value.Val.TheVariants as vals
use Rattle.base_data.specs.declared.model.value.Obj.{Obj}
use Rattle.base_data.specs.declared.model.value.Obj.TheVariants as objects
use Rattle.marshal_heap.specs.declared.heap.kind.Kind.{Kind}
use Rattle.marshal_heap.specs.declared.heap.kind.Kind.TheVariants as kinds
use Rattle.marshal_heap.specs.heap.Heap.{fields_of, bytes_of, doubles_of}
use Rattle.text_print.specs.leaves.LeafTexts.{string_text, float_text}

-- The text of a value. A reference is printed as the number of its object.
abbrev pub value_text : Val → List ℕ
value_text (vals.Int z) = signed_decimal z
value_text (vals.Atom tag) = codes "@" ++ decimal tag
value_text (vals.Ref o) = codes "#" ++ decimal o

abbrev pub spaced_value : Val → List ℕ
spaced_value v = codes " " ++ value_text v

abbrev pub spaced_float : ℕ → List ℕ
spaced_float bits = codes " " ++ float_text bits

abbrev pub object_text : Obj → List ℕ
object_text (objects.Block tag values) =
    codes " block " ++ decimal tag ++ codes ":" ++ flat_map spaced_value values
object_text (objects.Bytes bytes) = codes " string " ++ string_text bytes
object_text (objects.Double bits) = codes " float " ++ float_text bits
object_text (objects.Doubles all) = codes " floats" ++ flat_map spaced_float all
object_text (objects.I32 z) = codes " int32 " ++ signed_decimal z
object_text (objects.I64 z) = codes " int64 " ++ signed_decimal z
object_text (objects.Native z) = codes " nativeint " ++ signed_decimal z

abbrev pub root_line : Val → List ℕ
root_line root = codes "root " ++ value_text root ++ codes "\n"

abbrev pub object_line : ℕ → Obj → List ℕ
object_line o object = codes "#" ++ decimal o ++ object_text object ++ codes "\n"

-- ---- the texts of objects, by kind

abbrev pub custom_text : Custom → List ℕ
custom_text (customs.I32 z) = codes " int32 " ++ signed_decimal z
custom_text (customs.I64 z) = codes " int64 " ++ signed_decimal z
custom_text (customs.Native z) = codes " nativeint " ++ signed_decimal z

abbrev pub text_of_kind : Kind → Obj → List ℕ
text_of_kind (kinds.Block tag size) object =
    codes " block " ++ decimal tag ++ codes ":" ++ flat_map spaced_value (fields_of object)
text_of_kind (kinds.Bytes len) object = codes " string " ++ string_text (bytes_of object)
text_of_kind kinds.Double object = codes " float" ++ flat_map spaced_float (doubles_of object)
text_of_kind (kinds.Doubles len) object =
    codes " floats" ++ flat_map spaced_float (doubles_of object)
text_of_kind (kinds.Custom c) object = custom_text c
