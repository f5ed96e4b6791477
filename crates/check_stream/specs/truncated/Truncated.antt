-- The incomplete token at the end of the bytes.
use Rattle.std.specs.Prelude.{ℕ, ◌+◌, ◌<◌, ◌≤◌, ◌≡◌, false, List, [], ◌∷◌, length, take, Option}
use Rattle.std.specs.Prelude.{None}
use Rattle.base_data.specs.declared.model.code.CodeKind.{CodeKind}
use Rattle.base_data.specs.declared.model.code.Measure.{Measure}
use Rattle.marshal_spec.specs.format.Code.{custom_of}
use Rattle.marshal_spec.specs.format.Raw.{fixed_bytes, field_bytes, variable_bytes, measure_after}
use Rattle.marshal_spec.specs.format.Raw.{IsPart}
use Rattle.marshal_spec.specs.format.Words.{of_object, fields}
use Rattle.marshal_spec.specs.format.Step.{Context, step, overlong, first_refusal, field_refusal}
use Rattle.marshal_spec.specs.format.Step.{variable_steps, steps_after, token_steps}

-- A value is pending at the offset. The header leaves room for a token of `n` bytes, for one byte
-- of each further pending value, and for `few32` and `few64` words.
pub record HasRoom (c : Context) (n few32 few64 : ℕ) : Type 0 where
  pub open_before : 0 < c.sums.pending
  pub room : c.taken + n + c.sums.pending ≤ c.head.length + 1
  pub w32 : c.head.big ≡ false → c.sums.w32 + few32 ≤ c.head.w32
  pub w64 : c.sums.w64 + few64 ≤ c.head.w64

-- The bytes are a proper prefix of a token that has at least `n` bytes. If there is room for the
-- token, then no step that the prefix decides fails.
pub record IsTruncated (n few32 few64 : ℕ) (part : List ℕ) : Type 0 where
  pub some : 0 < n
  pub is_part : IsPart part
  pub passes :
      (c : Context) → HasRoom c n few32 few64
      → first_refusal (length part) (token_steps c part) ≡ None

-- The bytes that follow a code of this kind satisfy `IsTruncated`.
pub record IsTruncatedAfter (kind : CodeKind) (rest : List ℕ) (n few32 few64 : ℕ) : Type 0 where
  pub some : 0 < n
  pub is_part : length rest < fixed_bytes kind + variable_bytes kind rest
  pub passes :
      (c : Context) (code : ℕ) → HasRoom c n few32 few64
      → first_refusal (1 + length rest) (steps_after c code kind rest) ≡ None

-- A token of this kind has `variable` bytes after the fixed bytes. The token makes an object of
-- this measure without fields, or no object. The fields of the token are sound in every context.
pub record IsSized (kind : CodeKind) (rest : List ℕ) (variable : ℕ) (measure : Option Measure)
    : Type 0 where
  pub variable_is : variable ≡ variable_bytes kind rest
  pub measure_is : measure_after kind rest ≡ measure
  pub leaf : of_object fields measure ≡ 0
  pub sound : (c : Context) (code : ℕ) → field_refusal c code kind rest ≡ None
  pub steps :
      (c : Context) → variable_steps c kind (custom_of (take 3 rest)) rest
      ≡ step (1 + field_bytes kind)
      (overlong c (variable_bytes kind rest) (1 + fixed_bytes kind)) ∷ []
