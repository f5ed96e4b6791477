-- The encoding of a graph as words and header offsets, and the inverse of the encoding.
use Rattle.std.specs.Prelude.{ℕ, ◌+◌, ◌-◌, ◌*◌, ◌/◌, ◌%◌, ◌^◌, ◌≡◌, List, length, map, take, drop}
use Rattle.std.specs.Prelude.{flat_map, slice_index, ℤ, pos, negsuc, nat_lt, ◌==◌, if◌then◌else◌}
use Rattle.std.specs.List.{range_with_len, position_or_len}
use Rattle.base_data.specs.declared.model.value.Val.{Val}
use Rattle.base_data.specs.declared.model.value.Val.TheVariants as vals
use Rattle.base_data.specs.declared.model.value.Obj.{Obj}
use Rattle.base_data.specs.declared.model.value.Obj.TheVariants as objects
use Rattle.base_data.specs.declared.model.code.Custom.{Custom}
use Rattle.base_data.specs.declared.model.code.Custom.TheVariants as customs
use Rattle.marshal_heap.specs.declared.heap.kind.Kind.{Kind}
use Rattle.marshal_heap.specs.declared.heap.kind.Kind.TheVariants as kinds
use Rattle.marshal_heap.specs.heap.Heap.{position, custom_object, IsHeap}
use Rattle.marshal_heap.specs.heap.ObjectWords.{code_with, byte_in}

-- All words of a graph, one object after another.
unfoldable pub encode : List Obj → List ℕ
encode graph = flat_map (code_with (position graph)) graph

unfoldable pub positions_of : List Obj → List ℕ
positions_of graph = map (position graph) (range_with_len 0 (length graph))

-- The integer that a word represents.
abbrev pub integer_from : ℕ → ℤ
integer_from word =
    if nat_lt word (2 ^ 63) then pos (word / 2) else negsuc ((2 ^ 64 - 1 - word) / 2)

abbrev pub signed_from : ℕ → ℤ
signed_from word = if nat_lt word (2 ^ 63) then pos word else negsuc (2 ^ 64 - 1 - word)

abbrev pub value_from : List ℕ → ℕ → Val
value_from positions word =
    if word % 2 == 1 then vals.Int (integer_from word)
    else (if word % 8 == 2 then vals.Atom (word / 8)
    else vals.Ref (position_or_len (λ p. p == word / 8) positions))

abbrev pub string_length : List ℕ → ℕ
string_length words = 8 * length words - 1 - byte_in words (8 * length words - 1)

unfoldable pub bytes_from : List ℕ → List ℕ
bytes_from words = map (byte_in words) (range_with_len 0 (string_length words))

abbrev pub custom_from : ℕ → ℕ → Custom
custom_from id word =
    if id == 1 then customs.I32 (signed_from word)
    else (if id == 2 then customs.I64 (signed_from word)
    else customs.Native (signed_from word))

-- The object with the tag `tag` and the words `body` after the header.
abbrev pub object_from : List ℕ → ℕ → List ℕ → Obj
object_from positions tag body =
    if tag == 252 then objects.Bytes (bytes_from body)
    else (if tag == 253 then objects.Double (slice_index body 0)
    else (if tag == 254 then objects.Doubles body
    else (if tag == 255 then custom_object (custom_from (slice_index body 0) (slice_index body 1))
    else objects.Block tag (map (value_from positions) body))))

-- The kind and the size of the object with the tag `tag` and the words `body` after the header.
abbrev pub kind_from : ℕ → List ℕ → Kind
kind_from tag body =
    if tag == 252 then kinds.Bytes (string_length body)
    else (if tag == 253 then kinds.Double
    else (if tag == 254 then kinds.Doubles (length body)
    else (if tag == 255 then kinds.Custom (custom_from (slice_index body 0) (slice_index body 1))
    else kinds.Block tag (length body))))

-- The object whose header is at offset `p`.
abbrev pub object_in : List ℕ → List ℕ → ℕ → Obj
object_in words positions p =
    object_from positions (slice_index words p % 1024)
    (take (slice_index words p / 1024) (drop (p + 1) words))

unfoldable pub decode : List ℕ → List ℕ → List Obj
decode words positions = map (object_in words positions) positions

-- The words and the header offsets encode one graph, which is a heap.
pub record IsStored (words positions : List ℕ) : Type 0 where
  pub heap : IsHeap (decode words positions)
  pub encoded : words ≡ encode (decode words positions)
  pub placed : positions ≡ positions_of (decode words positions)
