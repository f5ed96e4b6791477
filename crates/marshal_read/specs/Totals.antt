-- The relation of the totals to the contexts of marshal_spec::format, and the totals after one
-- more token.
use Rattle.std.specs.Prelude.{ℕ, ◌≡◌, ◌+◌, ◌*◌, ◌^◌, List, length, ◌<◌, ◌≤◌, Bool, true, false}
use Rattle.std.specs.Prelude.{Option, Some, None, Result, Ok, Err}
use Rattle.std.specs.Option.{ForSome}
use Rattle.base_data.specs.declared.model.code.CodeKind.{CodeKind}
use Rattle.base_data.specs.declared.model.code.CodeKind.TheVariants as kinds
use Rattle.base_data.specs.declared.model.code.Measure.{Measure}
use Rattle.marshal_spec.specs.format.Raw.{fixed_bytes, variable_bytes, measure_after, raw_length}
use Rattle.marshal_spec.specs.format.Raw.{raw_measure}
use Rattle.marshal_spec.specs.format.Words.{Sums, one_more, of_object, fields, words32, words64}
use Rattle.marshal_spec.specs.format.Step.{Context, first_refusal, field_refusal, token_steps}
use Rattle.marshal_codec.specs.headers.Counting.{IsCountable}
use Rattle.marshal_read.specs.declared.unread.Unread.{Unread}
use Rattle.marshal_read.specs.declared.unread.Unread.TheVariants.{NeedMore, Refused}
use Rattle.marshal_read.specs.declared.read_totals.ReadTotals.{ReadTotals}

-- The record of the objects, the pending values, and the words on 32 and on 64 bits.
abbrev pub sums : ℕ → ℕ → ℕ → ℕ → Sums
sums objects pending w32 w64 = record { objects = objects; pending = pending; w32 = w32; w64 = w64 }

-- The context that the totals describe.
abbrev pub context_of : ReadTotals → Context
context_of position = record {
  head = position.head;
  start = position.start;
  taken = position.taken;
  sums = sums position.objects position.pending position.w32 position.w64;
}

-- The totals `position` describe the context `c`, stated field by field.
pub record AreTotals (position : ReadTotals) (c : Context) : Type 0 where
  pub head : c.head ≡ position.head
  pub start : c.start ≡ position.start
  pub taken : c.taken ≡ position.taken
  pub objects : c.sums.objects ≡ position.objects
  pub pending : c.sums.pending ≡ position.pending
  pub w32 : c.sums.w32 ≡ position.w32
  pub w64 : c.sums.w64 ≡ position.w64

-- The context after the token at the beginning of the bytes.
abbrev pub after : Context → List ℕ → Context
after c bytes =
    record c { taken = c.taken + raw_length bytes; sums = one_more c.sums (raw_measure bytes) }

-- The result of the steps of the token at the beginning of the bytes: a refusal, an incomplete
-- token, or the totals after the token.
abbrev pub IsNext : Context → List ℕ → Result ReadTotals Unread → Type 0
IsNext c bytes (Err (Refused r)) = first_refusal (length bytes) (token_steps c bytes) ≡ Some r
IsNext c bytes (Err NeedMore) =
    (first_refusal (length bytes) (token_steps c bytes) ≡ None) × (length bytes < raw_length bytes)
IsNext c bytes (Ok next) =
    (first_refusal (length bytes) (token_steps c bytes) ≡ None) × (raw_length bytes ≤ length bytes)
    × AreTotals next (after c bytes)

-- The context after a token of `n` bytes whose object has this measure.
abbrev pub moved : Context → ℕ → Option Measure → Context
moved c n measure = record c { taken = c.taken + n; sums = one_more c.sums measure }

-- The context after a token of kind `kind` whose bytes after the code are `rest`.
abbrev pub after_kind : Context → CodeKind → List ℕ → Context
after_kind c kind rest =
    moved c (1 + fixed_bytes kind + variable_bytes kind rest) (measure_after kind rest)

-- The words of a token's object (on 32 or 64 bits) are fewer than three for each byte and one for
-- each field of the token.
abbrev pub AreFew : (Measure → ℕ) → Option Measure → ℕ → Type 0
AreFew words measure n = of_object words measure + 1 ≤ 3 * n + of_object fields measure

-- The data of the value contain a token of `n` bytes. The token's object, which has this measure,
-- can be counted.
pub record IsSized (c : Context) (measure : Option Measure) (n : ℕ) : Type 0 where
  pub some : 0 < n
  pub room : c.taken + n ≤ c.head.length
  pub small : of_object fields measure < 2 ^ 60
  pub countable : ForSome measure IsCountable
  pub few32 : AreFew words32 measure n
  pub few64 : AreFew words64 measure n

-- All data, words and objects that the header states are consumed.
pub record EndsValue (position : ReadTotals) : Type 0 where
  pub taken : position.taken ≡ position.head.length
  pub w32 : position.head.big ≡ false → position.w32 ≡ position.head.w32
  pub w64 : position.w64 ≡ position.head.w64
  pub count : 0 < position.head.objects → position.head.objects ≡ position.objects

-- If the result is true, then the totals advance by this token. If the token is the last one, then
-- all that the header states is consumed. If the result is false, then the totals do not change.
abbrev pub Advances : ReadTotals → ℕ → Option Measure → ReadTotals → Bool → Type 0
Advances old n measure new true =
    (new.pending ≡ 0 → EndsValue new) × AreTotals new (moved (context_of old) n measure)
Advances old n measure new false = new ≡ old

-- The kind is not a custom block.
abbrev pub IsPlain : CodeKind → Type 0
IsPlain (kinds.Custom old) = ⊥
IsPlain kind = Unit {0}

-- A token of this kind is complete in the bytes after its code, has sound fields, and leads to the
-- totals `next`. If the token is the last one, then all that the header states is consumed.
pub record PassesTo (position : ReadTotals) (code : ℕ) (kind : CodeKind) (rest : List ℕ)
    (next : ReadTotals)
    : Type 0 where
  pub whole : fixed_bytes kind + variable_bytes kind rest ≤ length rest
  pub plain : IsPlain kind
  pub sound : field_refusal (context_of position) code kind rest ≡ None
  pub ends : next.pending ≡ 0 → EndsValue next
  pub next_is : AreTotals next (after_kind (context_of position) kind rest)
