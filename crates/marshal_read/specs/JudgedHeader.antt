-- The result of the steps of a header, whose format is in `intext.h`.
use Rattle.std.specs.Prelude.{ℕ, ◌≡◌, ◌<◌, ◌≤◌, List, [], ◌∷◌, length, take, nat_lt, ◌==◌}
use Rattle.std.specs.Prelude.{if◌then◌else◌, Some, None, Result, Ok, Err}
use Rattle.marshal_spec.specs.format.Header.{header_length}
use Rattle.base_data.specs.declared.model.header.Head.{Head}
use Rattle.base_data.specs.declared.model.refusal.ReadRefusal.TheVariants.{TooLarge, Overlong}
use Rattle.base_data.specs.declared.model.refusal.StatedNumber.TheVariants.{Words, Length}
use Rattle.marshal_spec.specs.format.Step.{Step, step, fails_if, first_refusal, length_limit}
use Rattle.marshal_spec.specs.format.Prefix.{context, header_refusal}
use Rattle.marshal_read.specs.declared.unread.Unread.{Unread}
use Rattle.marshal_read.specs.declared.unread.Unread.TheVariants.{NeedMore, Refused}
use Rattle.marshal_read.specs.declared.read_totals.ReadTotals.{ReadTotals}
use Rattle.marshal_read.specs.Totals.{AreTotals}

-- The result of checking a header is a refusal, the fact that the header is incomplete, or the
-- totals after the header.
abbrev pub JudgedHeader : ℕ → List ℕ → Result ReadTotals Unread → Type 0
JudgedHeader limit bytes (Err (Refused r)) = header_refusal limit bytes ≡ Some r
JudgedHeader limit bytes (Err NeedMore) =
    (header_refusal limit bytes ≡ None) × (length bytes < header_length bytes)
JudgedHeader limit bytes (Ok position) =
    (header_refusal limit bytes ≡ None) × (header_length bytes ≤ length bytes)
    × AreTotals position (context (take (header_length bytes) bytes) [])

-- The steps of a header after a valid magic number.
abbrev pub stated_steps : ℕ → Head → List Step
stated_steps limit head =
    step 0 (fails_if (nat_lt limit head.w64) (TooLarge Words head.w64 limit))
    ∷ step 0 (fails_if (nat_lt length_limit head.length) (TooLarge Length head.length length_limit))
    ∷ step 0 (fails_if (head.length == 0) (Overlong (if head.big then 32 else 20) 1 0))
    ∷ []

-- The totals after a header, before the first token.
abbrev pub start_of : Head → ReadTotals → Type 0
start_of head position =
    (position.head ≡ head) × (position.start ≡ (if head.big then 32 else 20)) × (position.taken ≡ 0)
    × (position.objects ≡ 0) × (position.pending ≡ 1) × (position.w32 ≡ 0) × (position.w64 ≡ 0)

-- The result of the steps `stated_steps`: a refusal, or the totals after the header.
abbrev pub Begins : ℕ → Head → Result ReadTotals Unread → Type 0
Begins limit head (Err (Refused r)) = first_refusal 0 (stated_steps limit head) ≡ Some r
Begins limit head (Err NeedMore) = ⊥
Begins limit head (Ok position) =
    (first_refusal 0 (stated_steps limit head) ≡ None) × start_of head position
