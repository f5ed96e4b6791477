-- The headers that can be encoded.
use Rattle.std.specs.Prelude.{◌^◌, ◌<◌, ◌≡◌, false}
use Rattle.base_data.specs.declared.model.header.Head.{Head}

-- Each number of the header fits into four bytes.
pub record HasSmallNumbers (head : Head) : Type 0 where
  pub length : head.length < 2 ^ 32
  pub objects : head.objects < 2 ^ 32
  pub w32 : head.w32 < 2 ^ 32
  pub w64 : head.w64 < 2 ^ 32

-- If the header is not big, each number of the header fits into four bytes.
abbrev pub FitsSmall : Head → Type 0
FitsSmall head = head.big ≡ false → HasSmallNumbers head
