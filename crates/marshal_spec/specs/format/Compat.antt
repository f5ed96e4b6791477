-- The values that a reader on 32 bits cannot hold (`extern.c`, flag `Compat_32`). The limit for a
-- `Nativeint` is an addition of this project.
use Rattle.std.specs.Prelude.{ℕ, Bool, false, not, nat_lt, max, length, find, Option, Some, None}
use Rattle.std.specs.Prelude.{if◌then◌else◌}
use Rattle.base_data.specs.declared.model.value.Obj.{Obj}
use Rattle.base_data.specs.declared.model.value.Obj.TheVariants as objects
use Rattle.base_data.specs.declared.model.header.Head.{Head}
use Rattle.marshal_spec.specs.format.Token.{Token, integer, atom, shared, block, leaf}
use Rattle.marshal_spec.specs.format.Tree.{Tree, tokens}
use Rattle.marshal_spec.specs.format.Canonical.{is_signed, canonical_head}

-- The object is a string, a double array or a `Nativeint` that is too large for 32 bits.
abbrev pub is_large_leaf : Obj → Bool
is_large_leaf (objects.Block tag values) = false
is_large_leaf (objects.Bytes bytes) = nat_lt 0xFFFFFB (length bytes)
is_large_leaf (objects.Double bits) = false
is_large_leaf (objects.Doubles all) = nat_lt 0x1FFFFF (length all)
is_large_leaf (objects.I32 z) = false
is_large_leaf (objects.I64 z) = false
is_large_leaf (objects.Native z) = not (is_signed 31 z)

-- The token is too large for 32 bits: a large object without fields, an integer of more than 31
-- bits, or a block with many fields.
abbrev pub is_large : Token → Bool
is_large (integer z) = not (is_signed 30 z)
is_large (atom tag) = false
is_large (shared offset) = false
is_large (block tag size) = nat_lt 0x3FFFFF size
is_large (leaf object) = is_large_leaf object

-- What is too large for a reader on 32 bits: a token, or the greatest number of a header that must
-- be big.
pub data TooLargeFor32 : Type 0 where
  token : Token → TooLargeFor32
  header : ℕ → TooLargeFor32

abbrev pub large_header : Head → Option TooLargeFor32
large_header head =
    if head.big then Some (header (max head.length (max head.w32 head.w64))) else None

abbrev pub first_large : Option Token → Head → Option TooLargeFor32
first_large (Some t) head = Some (token t)
first_large None head = large_header head

-- The first token in preorder that is too large for 32 bits. If no token is too large, the result
-- is the header if the header must be big.
unfoldable pub too_large_for_32 : Tree → Option TooLargeFor32
too_large_for_32 tree = first_large (find is_large (tokens tree)) (canonical_head (tokens tree))
