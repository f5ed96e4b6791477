-- Bytes that passed up to a part of a token are a prefix of a value, whether or not every part
-- matches its type.
use Rattle.std.specs.Prelude.{ℕ, ◌+◌, ◌<◌, ◌≤◌, ◌≡◌, false, List, drop, map}
use Rattle.base_data.specs.declared.model.header.Head.{Head}
use Rattle.types_spec.specs.types.Table.{Table}
use Rattle.marshal_spec.specs.format.Prefix.{IsPrefix}
use Rattle.marshal_spec.specs.format.Token.{Token, measure_of}
use Rattle.marshal_spec.specs.format.Words.{all_words32, all_words64}
use Rattle.check_stream.specs.truncated.Truncated.{IsTruncated}
use Rattle.check_stream.specs.theory.AskedNeeds.{Need, values_in}
use Rattle.check_stream.specs.theory.OnePass.{IsPassing}
use Rattle.check_stream.specs.mismatch_theory.PassedBut.{OpenPosition, MadeObject, Missed}
use Rattle.check_stream.specs.mismatch_theory.PassedBut.{values_at}
use Rattle.check_stream.specs.mismatch_theory.MissedPrefix.{IsPassingBut}

-- After `n` bytes, `values` values are pending, at least one. The header has room for a token of
-- `bytes` bytes, for one byte of each further pending value, and for `few32` and `few64` words.
pub record HasRoomAt
    (head : Head) (start n : ℕ) (tokens : List Token) (values bytes few32 few64 : ℕ)
    : Type 0 where
  pub open_before : 0 < values
  pub room : n + bytes + values ≤ start + head.length + 1
  pub w32 : head.big ≡ false → all_words32 (map measure_of tokens) + few32 ≤ head.w32
  pub w64 : all_words64 (map measure_of tokens) + few64 ≤ head.w64

abbrev pub PassingIsPrefix : Type 0
PassingIsPrefix =
    (noted : List (ℕ × ℕ)) (table : Table) (limit : ℕ) (bytes : List ℕ) (head : Head) (start n : ℕ)
    (tokens : List Token) (types : List ℕ) (needs : List Need) (long few32 few64 : ℕ)
    → IsPassing noted table limit bytes head start n tokens types needs
    → IsTruncated long few32 few64 (drop n bytes)
    → HasRoomAt head start n tokens (values_in needs) long few32 few64
    → IsPrefix limit bytes

-- The law that bytes that passed except for mismatches are a prefix of a value.
abbrev pub PassingButIsPrefix : Type 0
PassingButIsPrefix =
    (back : List ℕ) (table : Table) (limit : ℕ) (bytes : List ℕ) (head : Head) (start n : ℕ)
    (tokens : List Token) (made : List MadeObject) (positions : List OpenPosition)
    (missed : List Missed)
    (long few32 few64 : ℕ)
    → IsPassingBut back table limit bytes head start n tokens made positions missed
    → IsTruncated long few32 few64 (drop n bytes)
    → HasRoomAt head start n tokens (values_at positions) long few32 few64
    → IsPrefix limit bytes
