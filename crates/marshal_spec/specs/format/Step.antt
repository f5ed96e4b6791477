-- The steps that a header, a token and the end of a tree must pass, in the order of `intern.c`. The
-- limits and the offsets are this project's own.
use Rattle.std.specs.Prelude.{ℕ, ◌+◌, ◌-◌, ◌%◌, ◌^◌, ◌==◌, ◌||◌, ◌&&◌, not, nat_lt, Bool, true}
use Rattle.std.specs.Prelude.{false, List, [], ◌∷◌, ◌++◌, take, Option, Some, None, is_none, Result}
use Rattle.std.specs.Prelude.{Ok, Err, slice_index, if◌then◌else◌, ℤ, pos, negsuc}
use Rattle.base_data.specs.declared.model.refusal.ReadRefusal.{ReadRefusal}
use Rattle.base_data.specs.declared.model.refusal.ReadRefusal.TheVariants.{BadMagic, Compressed}
use Rattle.base_data.specs.declared.model.refusal.ReadRefusal.TheVariants.{TooLarge}
use Rattle.base_data.specs.declared.model.refusal.ReadRefusal.TheVariants.{BadCode, PointerCode}
use Rattle.base_data.specs.declared.model.refusal.ReadRefusal.TheVariants.{OtherCustom, BadTag}
use Rattle.base_data.specs.declared.model.refusal.ReadRefusal.TheVariants.{BadShared}
use Rattle.base_data.specs.declared.model.refusal.ReadRefusal.TheVariants.{NoTable, BadNative}
use Rattle.base_data.specs.declared.model.refusal.ReadRefusal.TheVariants.{IntRange}
use Rattle.base_data.specs.declared.model.refusal.ReadRefusal.TheVariants.{ZeroArray, Overlong}
use Rattle.base_data.specs.declared.model.refusal.ReadRefusal.TheVariants.{SizeMismatch}
use Rattle.base_data.specs.declared.model.refusal.ReadRefusal.TheVariants.{CountMismatch}
use Rattle.base_data.specs.declared.model.refusal.ReadRefusal.TheVariants.{LengthMismatch}
use Rattle.base_data.specs.declared.model.refusal.StatedNumber.TheVariants.{Words, Length}
use Rattle.base_data.specs.declared.model.refusal.WordSum.TheVariants.{W32, W64}
use Rattle.base_data.specs.declared.model.header.Head.{Head}
use Rattle.base_data.specs.declared.model.code.CodeKind.{CodeKind}
use Rattle.base_data.specs.declared.model.code.CodeKind.TheVariants as kinds
use Rattle.base_data.specs.declared.model.code.CodeFault.{CodeFault}
use Rattle.base_data.specs.declared.model.code.CodeFault.TheVariants as faults
use Rattle.base_data.specs.declared.model.code.CustomKind.{CustomKind}
use Rattle.base_data.specs.declared.model.code.CustomKind.TheVariants as customs
use Rattle.base_data.specs.model.Bytes.{number, signed}
use Rattle.marshal_spec.specs.format.Code.{kind_of, custom_of, native_bytes}
use Rattle.marshal_spec.specs.format.Header.{magic, small_magic, big_magic, compressed_magic}
use Rattle.marshal_spec.specs.format.Header.{header_length}
use Rattle.marshal_spec.specs.format.Header.{head_of}
use Rattle.marshal_spec.specs.format.Raw.{fixed_bytes, field_bytes, sizing_bytes, variable_bytes}
use Rattle.marshal_spec.specs.format.Raw.{measure_after}
use Rattle.marshal_spec.specs.format.Words.{Sums, one_more}

-- A step. The field `ends` is the number of bytes that must be known to decide the step. The field
-- `refusal` is the refusal if the step fails.
pub record Step : Type 0 where
  pub ends : ℕ
  pub refusal : Option ReadRefusal

abbrev pub step : ℕ → Option ReadRefusal → Step
step n r = record { ends = n; refusal = r }

abbrev pub fails_if : Bool → ReadRefusal → Option ReadRefusal
fails_if true r = Some r
fails_if false r = None

abbrev pub or_else : Option ReadRefusal → Option ReadRefusal → Option ReadRefusal
or_else None next = next
or_else (Some r) next = Some r

-- The refusal of the first step that is decided and fails. A step is decided if the first `n` bytes
-- contain the fields that this step and the earlier steps read.
abbrev pub first_refusal : ℕ → List Step → Option ReadRefusal
first_refusal n [] = None
first_refusal n (s ∷ steps) =
    if nat_lt n s.ends then None else or_else s.refusal (first_refusal n steps)

-- ---- the header

abbrev pub magic_refusal : ℕ → Option ReadRefusal
magic_refusal m =
    if m == compressed_magic then Some Compressed
    else fails_if (not ((m == small_magic) || (m == big_magic))) (BadMagic m)

-- The largest length of a value's data, in bytes.
abbrev pub length_limit : ℕ
length_limit = 2 ^ 48 - 1

-- The steps of the header of a value of at most `limit` words on 64 bits.
unfoldable pub header_steps : ℕ → List ℕ → List Step
header_steps limit header =
    let n = header_length header in
    let head = head_of header in
    step 4 (magic_refusal (magic header))
    ∷ step n (fails_if (nat_lt limit head.w64) (TooLarge Words head.w64 limit))
    ∷ step n (fails_if (nat_lt length_limit head.length) (TooLarge Length head.length length_limit))
    ∷ step n (fails_if (head.length == 0) (Overlong n 1 0))
    ∷ []

-- ---- a token

-- The context of a token: the header, the header's length in bytes, the number of data bytes before
-- the token, and the sums over earlier tokens.
pub record Context : Type 0 where
  pub head : Head
  pub start : ℕ
  pub taken : ℕ
  pub sums : Sums

abbrev pub position : Context → ℕ
position c = c.start + c.taken

-- The number of data bytes after the first `n` bytes of the token.
abbrev pub left_after : Context → ℕ → ℕ
left_after c n = c.head.length - (c.taken + n)

-- Fails if `need` is greater than the number of data bytes after the first `n` bytes of the token.
-- The number `need` counts bytes or values.
abbrev pub overlong : Context → ℕ → ℕ → Option ReadRefusal
overlong c need n =
    fails_if (nat_lt (left_after c n) need) (Overlong (position c) need (left_after c n))

abbrev pub code_refusal : CodeFault → ℕ → ℕ → ReadRefusal
code_refusal faults.BadCode p code = BadCode p code
code_refusal faults.PointerCode p code = PointerCode p code
code_refusal faults.CustomLen p code = OtherCustom p code

-- The integer fits 63 bits.
abbrev pub is_integer : ℤ → Bool
is_integer (pos n) = nat_lt n (2 ^ 62)
is_integer (negsuc n) = nat_lt n (2 ^ 62)

-- Fails if an integer of eight bytes does not fit 63 bits.
abbrev pub integer_refusal : Context → ℤ → Option ReadRefusal
integer_refusal c z = fails_if (not (is_integer z)) (IntRange (position c) z)

-- Fails if an offset, counted back from the next object, leads to no object. If the offset leads to
-- an object, fails if the header counts no objects.
abbrev pub shared_refusal : Context → ℕ → Option ReadRefusal
shared_refusal c offset =
    or_else
    (fails_if ((offset == 0) || nat_lt (c.sums.objects) offset)
    (BadShared (position c) offset (c.sums.objects)))
    (fails_if (c.head.objects == 0) (NoTable (position c)))

-- The refusal of the token's fields: its tag, offset, identifier, integer or length.
abbrev pub field_refusal : Context → ℕ → CodeKind → List ℕ → Option ReadRefusal
field_refusal c code (kinds.SmallBlock tag size) rest = None
field_refusal c code (kinds.SmallInt n) rest = None
field_refusal c code (kinds.SmallString n) rest = None
field_refusal c code (kinds.Int width) rest =
    if width == 8 then integer_refusal c (signed (take 8 rest)) else None
field_refusal c code (kinds.Shared width) rest = shared_refusal c (number (take width rest))
field_refusal c code (kinds.Block width) rest =
    let tag = number (take width rest) % 256 in fails_if (nat_lt 243 tag) (BadTag (position c) tag)
field_refusal c code (kinds.Str width) rest = None
field_refusal c code (kinds.Double little) rest = None
field_refusal c code (kinds.Doubles width little) rest =
    fails_if (number (take width rest) == 0) (ZeroArray (position c))
field_refusal c code (kinds.Custom old) rest =
    fails_if (is_none (custom_of (take 3 rest))) (OtherCustom (position c) code)

-- The steps of a `Nativeint`: the kind byte first, and then the number.
abbrev pub native_steps : Context → ℕ → List Step
native_steps c kind =
    step 4 (overlong c 1 4)
    ∷ step 5 (fails_if (native_bytes kind == 0) (BadNative (position c) kind))
    ∷ step 5 (overlong c (native_bytes kind) 5)
    ∷ []

abbrev pub variable_steps : Context → CodeKind → Option CustomKind → List ℕ → List Step
variable_steps c (kinds.Custom old) (Some customs.Native) rest = native_steps c (slice_index rest 3)
variable_steps c kind custom rest =
    step (1 + field_bytes kind) (overlong c (variable_bytes kind rest) (1 + fixed_bytes kind)) ∷ []

-- Fails if the sum of words on 32 bits differs from the number in a small header. A big header has
-- no number of words on 32 bits.
abbrev pub words32_refusal : (ℕ → ℕ → Bool) → ℕ → Head → ℕ → Option ReadRefusal
words32_refusal differ p head found =
    fails_if (not head.big && differ head.w32 found) (SizeMismatch p W32 head.w32 found)

abbrev pub words64_refusal : (ℕ → ℕ → Bool) → ℕ → Head → ℕ → Option ReadRefusal
words64_refusal differ p head found =
    fails_if (differ head.w64 found) (SizeMismatch p W64 head.w64 found)

abbrev pub nat_ne : ℕ → ℕ → Bool
nat_ne a b = not (a == b)

-- The steps after the last token of a value, which has `n` bytes. The steps check the remaining
-- bytes, the words and the objects.
abbrev pub end_steps : Context → ℕ → Sums → List Step
end_steps c n all =
    let p = position c + n in
    step n (fails_if (nat_lt 0 (left_after c n)) (LengthMismatch p (left_after c n)))
    ∷ step n (words32_refusal nat_ne p c.head all.w32)
    ∷ step n (words64_refusal nat_ne p c.head all.w64)
    ∷ step n
    (fails_if (not (c.head.objects == 0) && nat_ne c.head.objects all.objects)
    (CountMismatch p c.head.objects all.objects))
    ∷ []

-- The steps of a token's fixed bytes and fields.
abbrev pub entry_steps : Context → ℕ → CodeKind → List ℕ → List Step
entry_steps c code kind rest =
    step 1 (overlong c (fixed_bytes kind) 1)
    ∷ step (1 + field_bytes kind) (field_refusal c code kind rest)
    ∷ []

-- The steps that check the number of expected values and the words. If the token is the last one,
-- the steps of the end of the tree follow.
abbrev pub closing_steps : Context → CodeKind → List ℕ → List Step
closing_steps c kind rest =
    let n = 1 + fixed_bytes kind + variable_bytes kind rest in
    let sized = 1 + sizing_bytes kind rest in
    let all = one_more c.sums (measure_after kind rest) in
    step sized (overlong c all.pending n)
    ∷ step sized (words32_refusal nat_lt (position c) c.head all.w32)
    ∷ step sized (words64_refusal nat_lt (position c) c.head all.w64)
    ∷ (if all.pending == 0 then end_steps c n all else [])

-- All steps of a token whose code has this kind.
abbrev pub steps_after : Context → ℕ → CodeKind → List ℕ → List Step
steps_after c code kind rest =
    entry_steps c code kind rest
    ++ (variable_steps c kind (custom_of (take 3 rest)) rest ++ closing_steps c kind rest)

abbrev pub steps_from : Context → ℕ → Result CodeKind CodeFault → List ℕ → List Step
steps_from c code (Ok kind) rest = steps_after c code kind rest
steps_from c code (Err fault) rest = step 1 (Some (code_refusal fault (position c) code)) ∷ []

unfoldable pub token_steps : Context → List ℕ → List Step
token_steps c [] = []
token_steps c (code ∷ rest) = steps_from c code (kind_of code) rest
