-- The vocabulary of a heap's contracts: the parts of an object, an object's size in words
-- (`extern.c`), and a graph with one part changed.
use Rattle.std.specs.Prelude.{ℕ, ◌+◌, ◌-◌, ◌*◌, ◌/◌, ◌^◌, ◌<◌, ◌≡◌, List, [], ◌∷◌, ◌++◌, length}
use Rattle.std.specs.Prelude.{take, All, sum_by, ℤ, pos, negsuc, Option, Some, None, Result, Ok}
use Rattle.std.specs.Prelude.{Err, slice_index, slice_index_or, slice_set}
use Rattle.base_data.specs.declared.model.out_of_memory.Memory.{Memory}
use Rattle.base_data.specs.declared.model.value.Val.{Val}
use Rattle.base_data.specs.declared.model.value.Val.TheVariants as vals
use Rattle.base_data.specs.declared.model.value.Obj.{Obj}
use Rattle.base_data.specs.declared.model.value.Obj.TheVariants as objects
use Rattle.base_data.specs.declared.model.code.Custom.{Custom}
use Rattle.base_data.specs.declared.model.code.Custom.TheVariants as customs
use Rattle.base_data.specs.declared.model.code.Measure.{Measure}
use Rattle.base_data.specs.declared.model.code.Measure.TheVariants as measures
use Rattle.marshal_spec.specs.format.Words.{words64}
use Rattle.base_data.specs.model.Graph.{IsValue, IsGraph}
use Rattle.marshal_heap.specs.declared.heap.kind.Kind.{Kind}
use Rattle.marshal_heap.specs.declared.heap.kind.Kind.TheVariants as kinds

-- Object number `o`, or an object without parts if `o` is beyond the last object.
abbrev pub object_at : List Obj → ℕ → Obj
object_at graph o = slice_index_or graph o (objects.I32 (pos 0))

-- The fields of an object. An object that is not a block has no fields.
abbrev pub fields_of : Obj → List Val
fields_of (objects.Block tag values) = values
fields_of object = []

abbrev pub bytes_of : Obj → List ℕ
bytes_of (objects.Bytes bytes) = bytes
bytes_of object = []

abbrev pub doubles_of : Obj → List ℕ
doubles_of (objects.Double bits) = bits ∷ []
doubles_of (objects.Doubles all) = all
doubles_of object = []

-- Field `i` of object `o`.
abbrev pub field_at : List Obj → ℕ → ℕ → Val
field_at graph o i = slice_index_or (fields_of (object_at graph o)) i (vals.Int (pos 0))

abbrev pub byte_at : List Obj → ℕ → ℕ → ℕ
byte_at graph o i = slice_index (bytes_of (object_at graph o)) i

abbrev pub double_at : List Obj → ℕ → ℕ → ℕ
double_at graph o i = slice_index (doubles_of (object_at graph o)) i

-- The object with field `i` replaced by `v`.
abbrev pub with_field : Obj → ℕ → Val → Obj
with_field (objects.Block tag values) i v = objects.Block tag (slice_set values i v)
with_field object i v = object

abbrev pub with_byte : Obj → ℕ → ℕ → Obj
with_byte (objects.Bytes bytes) i b = objects.Bytes (slice_set bytes i b)
with_byte object i b = object

abbrev pub with_double : Obj → ℕ → ℕ → Obj
with_double (objects.Double old) i bits = objects.Double bits
with_double (objects.Doubles all) i bits = objects.Doubles (slice_set all i bits)
with_double object i bits = object

-- The graph with field `i` of object `o` replaced by `v`.
abbrev pub set_field : List Obj → ℕ → ℕ → Val → List Obj
set_field graph o i v = slice_set graph o (with_field (object_at graph o) i v)

abbrev pub set_byte : List Obj → ℕ → ℕ → ℕ → List Obj
set_byte graph o i b = slice_set graph o (with_byte (object_at graph o) i b)

abbrev pub set_double : List Obj → ℕ → ℕ → ℕ → List Obj
set_double graph o i bits = slice_set graph o (with_double (object_at graph o) i bits)

-- The object of a custom block.
abbrev pub custom_object : Custom → Obj
custom_object (customs.I32 z) = objects.I32 z
custom_object (customs.I64 z) = objects.I64 z
custom_object (customs.Native z) = objects.Native z

-- The kind and the size of an object, without its parts.
abbrev pub kind_of : Obj → Kind
kind_of (objects.Block tag values) = kinds.Block tag (length values)
kind_of (objects.Bytes bytes) = kinds.Bytes (length bytes)
kind_of (objects.Double bits) = kinds.Double
kind_of (objects.Doubles all) = kinds.Doubles (length all)
kind_of (objects.I32 z) = kinds.Custom (customs.I32 z)
kind_of (objects.I64 z) = kinds.Custom (customs.I64 z)
kind_of (objects.Native z) = kinds.Custom (customs.Native z)

-- The object has the kind `Kind`: the object consists of its parts, and the kind states the number
-- of the parts.
abbrev pub IsOfKind : Kind → Obj → Type 0
IsOfKind (kinds.Block tag size) object =
    (object ≡ objects.Block tag (fields_of object)) × (size ≡ length (fields_of object))
IsOfKind (kinds.Bytes len) object =
    (object ≡ objects.Bytes (bytes_of object)) × (len ≡ length (bytes_of object))
IsOfKind kinds.Double object = object ≡ objects.Double (slice_index (doubles_of object) 0)
IsOfKind (kinds.Doubles len) object =
    (object ≡ objects.Doubles (doubles_of object)) × (len ≡ length (doubles_of object))
IsOfKind (kinds.Custom c) object = object ≡ custom_object c

-- The measure of an object, which determines the object's size in words.
abbrev pub measure_of : Obj → Measure
measure_of (objects.Block tag values) = measures.Block (length values)
measure_of (objects.Bytes bytes) = measures.Bytes (length bytes)
measure_of (objects.Double bits) = measures.Double
measure_of (objects.Doubles all) = measures.Doubles (length all)
measure_of (objects.I32 z) = measures.Custom 4 4
measure_of (objects.I64 z) = measures.Custom 8 8
measure_of (objects.Native z) = measures.Custom 4 8

-- The number of words of an object on a 64-bit platform.
abbrev pub object_words : Obj → ℕ
object_words object = words64 (measure_of object)

abbrev pub heap_words : List Obj → ℕ
heap_words graph = sum_by object_words graph

-- The object has fewer than 2 ^ 54 words.
abbrev pub IsSmall : Obj → Type 0
IsSmall object = object_words object < 2 ^ 54

-- The invariant of each heap: the objects form a graph, and the numbers of words are bounded.
pub record IsHeap (graph : List Obj) : Type 0 where
  pub is_graph : IsGraph graph
  pub small : All IsSmall graph
  pub words : heap_words graph < 2 ^ 60

-- If the result is a number, then the object is appended and has that number. If the result is
-- `Memory`, then nothing has changed.
abbrev pub Appends : List Obj → List Obj → Obj → Result ℕ Memory → Type 0
Appends old new object (Ok number) = (number ≡ length old) × (new ≡ old ++ object ∷ [])
Appends old new object (Err memory) = new ≡ old

-- The object is a block. An object is a block if and only if the object has fields.
abbrev pub IsBlock : Obj → Type 0
IsBlock object = 0 < length (fields_of object)

-- The offset of the header of object `o`: the number of words of all objects before `o`.
unfoldable pub position : List Obj → ℕ → ℕ
position graph o = heap_words (take o graph)

-- The word of an integer z is 2z + 1 in two's complement.
abbrev pub integer_word : ℤ → ℕ
integer_word (pos n) = 2 * n + 1
integer_word (negsuc n) = 2 ^ 64 - 1 - 2 * n

-- The word of a value, given the offsets of headers. The word of an integer ends with the bit 1.
-- The word of an atom ends with the bits 010, and the word of a reference with the bits 000.
abbrev pub word_with : (ℕ → ℕ) → Val → ℕ
word_with positions (vals.Int z) = integer_word z
word_with positions (vals.Atom tag) = 8 * tag + 2
word_with positions (vals.Ref k) = 8 * positions k

abbrev pub word_of : List Obj → Val → ℕ
word_of graph v = word_with (position graph) v

-- If the result is a word, then the object is appended and the word refers to the object. If the
-- result is `None`, then nothing has changed.
abbrev pub AppendsInRoom : List Obj → List Obj → Obj → Option ℕ → Type 0
AppendsInRoom old new object (Some word) =
    (word ≡ word_of new (vals.Ref (length old))) × (new ≡ old ++ object ∷ [])
AppendsInRoom old new object None = new ≡ old

-- The word represents some value of the graph.
abbrev pub IsFieldWord : List Obj → ℕ → Type 0
IsFieldWord graph word = (v : Val) × IsValue (length graph) v × (word ≡ word_of graph v)

abbrev pub IsReferenceWord : List Obj → ℕ → Type 0
IsReferenceWord graph word = (k : ℕ) × (k < length graph) × (word ≡ word_of graph (vals.Ref k))

-- The object to which the word refers satisfies `P`.
abbrev pub ForNamed : List Obj → ℕ → (Obj → Type 0) → Type 0
ForNamed graph word P =
    (k : ℕ) → k < length graph → word ≡ word_of graph (vals.Ref k) → P (object_at graph k)

-- The key of object `k` for tables. Distinct objects have distinct keys, because each object has at
-- least two words.
abbrev pub key_of : List Obj → ℕ → ℕ
key_of graph k = position graph k / 2
