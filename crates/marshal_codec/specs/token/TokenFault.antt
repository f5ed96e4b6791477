-- The faults of a token that the token's own bytes decide. The other steps of a token compare it
-- with the header and with the earlier tokens.
use Rattle.std.specs.Prelude.{ℕ, ℤ, ◌+◌, ◌%◌, ◌≤◌, ◌≡◌, ◌==◌, not, nat_lt, Bool, true, false, List}
use Rattle.std.specs.Prelude.{length, take, slice_index, Option, Some, None, if◌then◌else◌}
use Rattle.base_data.specs.declared.model.refusal.ReadRefusal.{ReadRefusal}
use Rattle.base_data.specs.declared.model.refusal.ReadRefusal.TheVariants as refusals
use Rattle.base_data.specs.declared.model.code.CodeKind.{CodeKind}
use Rattle.base_data.specs.declared.model.code.CodeKind.TheVariants as kinds
use Rattle.base_data.specs.declared.model.code.CustomKind.{CustomKind}
use Rattle.base_data.specs.declared.model.code.CustomKind.TheVariants as customs
use Rattle.base_data.specs.model.Bytes.{number, signed}
use Rattle.marshal_spec.specs.format.Code.{custom_of, native_bytes}
use Rattle.marshal_spec.specs.format.Raw.{raw_length}
use Rattle.marshal_spec.specs.format.Step.{Context, position, is_integer, code_refusal}
use Rattle.marshal_spec.specs.format.Step.{first_refusal, token_steps}
use Rattle.marshal_codec.specs.declared.token.token_fault.TokenFault.{TokenFault}
use Rattle.marshal_codec.specs.declared.token.token_fault.TokenFault.TheVariants as faults

-- The refusal of a token with this fault, at this offset and with this code.
abbrev pub refusal_of : TokenFault → ℕ → ℕ → ReadRefusal
refusal_of (faults.Code fault) p code = code_refusal fault p code
refusal_of (faults.Integer z) p code = refusals.IntRange p z
refusal_of (faults.Tag tag) p code = refusals.BadTag p tag
refusal_of faults.Empty p code = refusals.ZeroArray p
refusal_of faults.Identifier p code = refusals.OtherCustom p code
refusal_of (faults.Native kind) p code = refusals.BadNative p kind

-- As many bytes are present as their sizes require, but the bytes encode no token. Under each
-- header whose data contain the bytes, the first step that fails is the step of this fault.
pub record IsFaultBy (bytes : List ℕ) (fault : TokenFault) : Type 0 where
  pub whole : raw_length bytes ≤ length bytes
  pub refuses :
      (c : Context) → c.taken + raw_length bytes ≤ c.head.length
      → first_refusal (length bytes) (token_steps c bytes)
      ≡ Some (refusal_of fault (position c) (slice_index bytes 0))

-- ---- the faults of each kind

abbrev pub fault_if : Bool → TokenFault → Option TokenFault
fault_if true fault = Some fault
fault_if false fault = None

-- The fault of an integer of `width` bytes: eight bytes with more than 63 bits.
abbrev pub integer_fault : ℕ → ℤ → Option TokenFault
integer_fault width z =
    if width == 8 then fault_if (not (is_integer z)) (faults.Integer z) else None

-- The fault of a header word: a tag that is greater than 243.
abbrev pub word_fault : ℕ → Option TokenFault
word_fault word = fault_if (nat_lt 243 (word % 256)) (faults.Tag (word % 256))

-- The fault of an array of doubles: an array without elements.
abbrev pub count_fault : ℕ → Option TokenFault
count_fault count = fault_if (count == 0) faults.Empty

-- The fault of a `Nativeint`: an unknown kind byte.
abbrev pub native_fault : ℕ → Option TokenFault
native_fault kind = fault_if (native_bytes kind == 0) (faults.Native kind)

abbrev pub custom_fault : Option CustomKind → ℕ → Option TokenFault
custom_fault None kind = Some faults.Identifier
custom_fault (Some customs.Int32) kind = None
custom_fault (Some customs.Int64) kind = None
custom_fault (Some customs.Native) kind = native_fault kind

-- The fault of the bytes after a code of this kind.
abbrev pub chunk_fault : CodeKind → List ℕ → Option TokenFault
chunk_fault (kinds.SmallBlock tag size) chunk = None
chunk_fault (kinds.SmallInt n) chunk = None
chunk_fault (kinds.SmallString n) chunk = None
chunk_fault (kinds.Int width) chunk = integer_fault width (signed chunk)
chunk_fault (kinds.Shared width) chunk = None
chunk_fault (kinds.Block width) chunk = word_fault (number chunk)
chunk_fault (kinds.Str width) chunk = None
chunk_fault (kinds.Double little) chunk = None
chunk_fault (kinds.Doubles width little) chunk = count_fault (number (take width chunk))
chunk_fault (kinds.Custom old) chunk = custom_fault (custom_of (take 3 chunk)) (slice_index chunk 3)
