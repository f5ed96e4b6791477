-- The codes that begin tokens (`intext.h`).
use Rattle.std.specs.Prelude.{ℕ, ◌/◌, ◌%◌, ◌<◌, ◌≤◌, true, false, List, [], ◌∷◌, Option, Some, None}
use Rattle.std.specs.Prelude.{Result, Ok, Err, nat_le, ◌==◌, ◌&&◌, if◌then◌else◌, slice_index_or}
use Rattle.std.specs.Prelude.{slice_index}
use Rattle.base_data.specs.declared.model.code.CodeKind.{CodeKind}
use Rattle.base_data.specs.declared.model.code.CodeKind.TheVariants.{SmallBlock, SmallInt}
use Rattle.base_data.specs.declared.model.code.CodeKind.TheVariants.{SmallString}
use Rattle.base_data.specs.declared.model.code.CodeKind.TheVariants.{Int, Shared, Block, Str}
use Rattle.base_data.specs.declared.model.code.CodeKind.TheVariants.{Double}
use Rattle.base_data.specs.declared.model.code.CodeKind.TheVariants.{Doubles, Custom}
use Rattle.base_data.specs.declared.model.code.CodeFault.{CodeFault}
use Rattle.base_data.specs.declared.model.code.CodeFault.TheVariants.{BadCode, PointerCode}
use Rattle.base_data.specs.declared.model.code.CodeFault.TheVariants.{CustomLen}
use Rattle.base_data.specs.declared.model.code.CustomKind.{CustomKind}
use Rattle.base_data.specs.declared.model.code.CustomKind.TheVariants.{Int32, Int64, Native}

-- The kinds of the codes from 0x00 on. If a code below 32 is beyond the list, then the code is a
-- `BadCode`.
abbrev pub large_kinds : List (Result CodeKind CodeFault)
large_kinds =
    Ok (Int 1) ∷ Ok (Int 2) ∷ Ok (Int 4) ∷ Ok (Int 8)
    ∷ Ok (Shared 1) ∷ Ok (Shared 2) ∷ Ok (Shared 4) ∷ Ok (Doubles 4 true)
    ∷ Ok (Block 4) ∷ Ok (Str 1) ∷ Ok (Str 4) ∷ Ok (Double false)
    ∷ Ok (Double true) ∷ Ok (Doubles 1 false) ∷ Ok (Doubles 1 true) ∷ Ok (Doubles 4 false)
    ∷ Err PointerCode ∷ Err PointerCode ∷ Ok (Custom true) ∷ Ok (Block 8)
    ∷ Ok (Shared 8) ∷ Ok (Str 8) ∷ Ok (Doubles 8 false) ∷ Ok (Doubles 8 true)
    ∷ Err CustomLen ∷ Ok (Custom false) ∷ []

-- The kind of token that a code begins.
unfoldable pub kind_of : ℕ → Result CodeKind CodeFault
kind_of code =
    if nat_le 128 code then Ok (SmallBlock (code % 16) (code / 16 % 8))
    else if nat_le 64 code then Ok (SmallInt (code % 64))
    else if nat_le 32 code then Ok (SmallString (code % 32))
    else slice_index_or large_kinds code (Err BadCode)

-- The identifiers `_i`, `_j` and `_n` of custom blocks, each with its final zero byte.
unfoldable pub custom_of : List ℕ → Option CustomKind
custom_of bytes =
    if (slice_index bytes 0 == 95) && (slice_index bytes 2 == 0) then
    if slice_index bytes 1 == 105 then Some Int32
    else if slice_index bytes 1 == 106 then Some Int64
    else if slice_index bytes 1 == 110 then Some Native
    else None
    else None

-- The number of bytes of a `Nativeint`'s number: four if the kind byte is 1, and eight if the kind
-- byte is 2.
abbrev pub native_bytes : ℕ → ℕ
native_bytes kind = if kind == 1 then 4 else if kind == 2 then 8 else 0

-- The widths and small numbers of the kind are within their bounds.
abbrev pub IsKind : CodeKind → Type 0
IsKind (SmallBlock tag size) = (tag < 16) × (size < 8)
IsKind (SmallInt n) = n < 64
IsKind (SmallString n) = n < 32
IsKind (Int width) = (1 ≤ width) × (width ≤ 8)
IsKind (Shared width) = (1 ≤ width) × (width ≤ 8)
IsKind (Block width) = (1 ≤ width) × (width ≤ 8)
IsKind (Str width) = (1 ≤ width) × (width ≤ 8)
IsKind (Double little) = Unit {0}
IsKind (Doubles width little) = (1 ≤ width) × (width ≤ 8)
IsKind (Custom old) = Unit {0}
