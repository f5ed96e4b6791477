-- A graph: a list of objects, each named by its index, and values that refer to the objects
-- (`intext.h`).
use Rattle.std.specs.Prelude.{ℕ, ◌^◌, ◌<◌, ◌≤◌, List, length, All, ℤ, pos, negsuc}
use Rattle.base_data.specs.declared.model.value.Val.{Val}
use Rattle.base_data.specs.declared.model.value.Val.TheVariants as vals
use Rattle.base_data.specs.declared.model.value.Obj.{Obj}
use Rattle.base_data.specs.declared.model.value.Obj.TheVariants as objects
use Rattle.base_data.specs.model.Bytes.{AreBytes}

-- The integer lies between -2 ^ `k` and 2 ^ `k` - 1.
abbrev pub IsSigned : ℕ → ℤ → Type 0
IsSigned k (pos n) = n < 2 ^ k
IsSigned k (negsuc n) = n < 2 ^ k

-- The integer fits 63 bits.
abbrev pub IsInteger : ℤ → Type 0
IsInteger z = IsSigned 62 z

-- A valid value in a graph of `n` objects.
abbrev pub IsValue : ℕ → Val → Type 0
IsValue n (vals.Int z) = IsInteger z
IsValue n (vals.Atom tag) = tag ≤ 243
IsValue n (vals.Ref k) = k < n

-- A valid object in a graph of `n` objects.
abbrev pub IsObject : ℕ → Obj → Type 0
IsObject n (objects.Block tag values) = (tag ≤ 243) × (0 < length values) × All (IsValue n) values
IsObject n (objects.Bytes bytes) = AreBytes bytes
IsObject n (objects.Double bits) = bits < 2 ^ 64
IsObject n (objects.Doubles all) = (0 < length all) × All (λ bits. bits < 2 ^ 64) all
IsObject n (objects.I32 z) = IsSigned 31 z
IsObject n (objects.I64 z) = IsSigned 63 z
IsObject n (objects.Native z) = IsSigned 63 z

abbrev pub IsGraph : List Obj → Type 0
IsGraph graph = All (IsObject (length graph)) graph
