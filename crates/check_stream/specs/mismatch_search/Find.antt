-- The state of the search for the only mismatch of a value, and its result.
use Rattle.std.specs.Prelude.{ℕ, ◌+◌, ◌-◌, ◌^◌, ◌<◌, ◌≡◌, List, [], ◌∷◌, ◌++◌, length}
use Rattle.std.specs.Prelude.{map, take, set, slice_get, Option, Some, None, All, Contains, Bool}
use Rattle.std.specs.Prelude.{true, false, replicate, ℤ, IsTrue}
use Rattle.base_data.specs.declared.model.header.Head.{Head}
use Rattle.types_spec.specs.types.Fitting.{fits_int}
use Rattle.types_spec.specs.types.Table.{Table, table_shapes}
use Rattle.marshal_spec.specs.format.Words.{of_object, words32, words64, all_words32, all_words64}
use Rattle.marshal_spec.specs.format.Token.{Token, IsToken, measure_of}
use Rattle.marshal_spec.specs.format.Tree.{RefersBack, made_by}
use Rattle.marshal_spec.specs.format.Encoded.{IsNoReference}
use Rattle.check_stream.specs.theory.AskedNeeds.{shape_at}
use Rattle.check_stream.specs.mismatch_theory.PassedBut.{OpenPosition, MadeObject, Missed}
use Rattle.check_stream.specs.mismatch_theory.PassedBut.{PassedBut, made_in}
use Rattle.check_stream.specs.mismatch_theory.PassedBut.{unasked}
use Rattle.check_stream.specs.mismatch_theory.PassedBut.{values_at}
use Rattle.check_stream.specs.mismatch_theory.MissedPrefix.{IsPassingBut, IsMissedPrefix}
use Rattle.check_stream.specs.checker.CheckerState.{IsSpent, stated32}
use Rattle.check_stream.specs.declared.mismatch_search.mismatch.SearchEnd.{SearchEnd}
use Rattle.check_stream.specs.declared.mismatch_search.mismatch.SearchEnd.TheVariants as ends
use Rattle.check_stream.specs.declared.mismatch_search.mismatch.FoundMismatch.{FoundMismatch}
use Rattle.check_stream.specs.declared.mismatch_search.mismatch.Finding.{Finding}
use Rattle.check_stream.specs.declared.mismatch_search.mismatch.Fast.{Fast}
use Rattle.check_stream.specs.declared.mismatch_search.mismatch.Fast.TheVariants as fasts
use Rattle.check_stream.specs.declared.mismatch_search.mismatch.Seeking.{Seeking}
use Rattle.marshal_codec.specs.declared.token.summary.Summary.{Summary}
use Rattle.marshal_codec.specs.declared.token.summary.Summary.TheVariants as summaries
use Rattle.check_stream.specs.declared.mismatch_search.way.Expectation.{Expectation}
use Rattle.check_stream.specs.declared.mismatch_search.way.Expectation.TheVariants as asks
use Rattle.check_stream.specs.declared.mismatch_search.way.Link.{Link}
use Rattle.marshal_codec.specs.token.Summary.{IsSummary, IsSummaryBy}
use Rattle.check_stream.specs.mismatch_search.Second.{IsFresh, Knows}
use Rattle.check_stream.specs.declared.mismatch_search.way.BlockExpectations.{BlockExpectations}
use Rattle.check_stream.specs.mismatch_search.SearchTrail.{trail_of, trail_in, position_of}
use Rattle.check_stream.specs.mismatch_search.SearchTrail.{root_position}
use Rattle.check_stream.specs.mismatch_search.SearchTrail.{way_positions, IsWay}
use Rattle.check_stream.specs.mismatch_search.SearchTrail.{left_values, opened_positions, OpensAt}

-- ---- the state of the search

-- No type has this number.
abbrev pub no_type : ℕ
no_type = 2 ^ 16 - 1

-- The number that is recorded for the type of an object. At and below the mismatch, `no_type` is
-- recorded.
abbrev pub type_or_none : Option ℕ → ℕ
type_or_none None = no_type
type_or_none (Some t) = t

-- The recorded numbers are the types of the objects, and no object has the number `no_type` as its
-- type.
abbrev pub AreTypes : List ℕ → List MadeObject → Type 0
AreTypes types made =
    (types ≡ map (λ (object : MadeObject). type_or_none object.type) made)
    × ((o t : ℕ) (trail : List (ℕ × ℕ))
    → slice_get made o ≡ Some record { type = Some t; trail = trail } → t < no_type)

-- The mark of each target of a reference is set.
abbrev pub AreMarked : List ℕ → List Bool → Type 0
AreMarked back marks = (o : ℕ) → Contains back o → slice_get marks o ≡ Some true

-- The list of marks is extended such that the object has a mark. The added marks are not set.
pub record Reaches (old : List Bool) (object : ℕ) (new : List Bool) : Type 0 where
  pub more : ℕ
  pub marks : new ≡ old ++ replicate more false
  pub within : object < length new

-- The mark of the object is set, and no other mark changes.
pub record AlsoMarks (old : List Bool) (object : ℕ) (new : List Bool) : Type 0 where
  pub all : List Bool
  pub reaches : Reaches old object all
  pub marks : new ≡ set all object true

-- No reference leads back to the object.
abbrev pub IsClear : List Bool → ℕ → Type 0
IsClear marks object = ¬ (slice_get marks object ≡ Some true)

-- No reference leads back to the block of the link `link`.
abbrev pub IsAlone : List Bool → Link → Type 0
IsAlone marks link = IsClear marks link.object

-- `found` describes the mismatch `missed`: the path, the expected type, and the summary of the
-- token.
pub record IsMissedAt (found : FoundMismatch) (missed : Missed) : Type 0 where
  pub trail : missed.trail ≡ trail_of found.links.items
  pub type : missed.type ≡ found.ty
  pub summary : IsSummary found.summary missed.token

-- If `found` is `None`, there is no mismatch. If `found` is given, there is exactly one mismatch,
-- which `found` describes.
abbrev pub AreMissedAt : Option FoundMismatch → List Missed → Type 0
AreMissedAt None missed = missed ≡ []
AreMissedAt (Some found) missed = (one : Missed) × (missed ≡ one ∷ []) × IsMissedAt found one

-- The state of the search agrees with these objects, targets of references and mismatches.
pub record IsHeld
    (back : List ℕ) (made : List MadeObject) (missed : List Missed) (finding : Finding)
    : Type 0 where
  pub is_way : IsWay finding.way
  pub types : AreTypes finding.types.items made
  pub marked : AreMarked back finding.again.marks.items
  pub found : AreMissedAt finding.found missed

-- The first `n` bytes lead to this state of the search. The positions `taken` precede the open
-- positions.
pub record LeadsSearch
    (table : Table) (limit : ℕ) (bytes : List ℕ) (head : Head) (start n : ℕ)
    (taken : List OpenPosition)
    (finding : Finding)
    : Type 0 where
  pub tokens : List Token
  pub back : List ℕ
  pub made : List MadeObject
  pub missed : List Missed
  pub passing :
      IsPassingBut back table limit bytes head start n tokens made
      (taken ++ way_positions finding.way)
      missed
  pub held : IsHeld back made missed finding
  pub known : Knows table (take n bytes) tokens finding.seconds
  pub w32 : finding.words.w32 + all_words32 (map measure_of tokens) ≡ stated32 head
  pub w64 : finding.words.w64 + all_words64 (map measure_of tokens) ≡ head.w64

-- The state of the search before the first token.
pub record BeginsSearch (head : Head) (finding : Finding) : Type 0 where
  pub is_way : IsWay finding.way
  pub positions : way_positions finding.way ≡ root_position ∷ []
  pub types : finding.types.items ≡ []
  pub marks : finding.again.marks.items ≡ []
  pub found : finding.found ≡ None
  pub seconds : IsFresh finding.seconds
  pub w32 : finding.words.w32 ≡ stated32 head
  pub w64 : finding.words.w64 ≡ head.w64

-- The type of the object is recorded, and the recorded type equals `type`.
pub record IsFirst (table : Table) (types : List ℕ) (object type : ℕ) : Type 0 where
  pub own : ℕ
  pub at : slice_get types object ≡ Some own
  pub typed : ¬ (own ≡ no_type)
  pub equal : (table_shapes table).equal own type

-- ---- one token of the search

-- The token is an integer of the type that the first open position expects, and the first open
-- position is consumed.
pub record Passes (table : Table) (old : Finding) (summary : Summary) (new : Finding) : Type 0 where
  pub z : ℤ
  pub its : summary ≡ summaries.Integer z
  pub type : ℕ
  pub trail : List (ℕ × ℕ)
  pub fits : IsTrue (fits_int (shape_at table type) z)
  pub is_way : IsWay new.way
  pub positions : way_positions old.way ≡ position_of (asks.Type type) trail ∷ way_positions new.way
  pub types : new.types ≡ old.types
  pub again : new.again ≡ old.again
  pub seconds : new.seconds ≡ old.seconds
  pub words : new.words ≡ old.words
  pub found : new.found ≡ old.found

-- The positions `left` are the positions of the token's fields, and expect nothing.
abbrev pub unasked_in : BlockExpectations → Token → Type 0
unasked_in left token =
    (object : ℕ) (trail : List (ℕ × ℕ)) → opened_positions object trail left ≡ unasked token

-- If the token makes no object, then no value is pending in the positions `left`.
abbrev pub HasRoom : Summary → BlockExpectations → Type 0
HasRoom summary left =
    (token : Token) → IsSummary summary token → made_by token ≡ 0 → left_values left ≡ 0

-- If the token makes an object, the object is added with the type `type`. The positions `left` are
-- opened.
pub record AddsObject (old : Finding) (type : ℕ) (summary : Summary) (left : BlockExpectations)
    (new : Finding)
    : Type 0 where
  pub opens :
      IsWay old.way → IsWay new.way × OpensAt old.way (length old.types.items) left new.way
  pub found : new.found ≡ old.found
  pub seconds : new.seconds ≡ old.seconds
  pub types :
      (token : Token) → IsSummary summary token
      → new.types.items ≡ old.types.items ++ replicate (made_by token) type
  pub again : new.again ≡ old.again
  pub w32 :
      (token : Token) → IsSummary summary token
      → new.words.w32 + of_object words32 (measure_of token) ≡ old.words.w32
  pub w64 :
      (token : Token) → IsSummary summary token
      → new.words.w64 + of_object words64 (measure_of token) ≡ old.words.w64

-- The token leads from the tokens and objects so far, after the bytes `prefix`, to the new state.
pub record LeadsTo
    (back : List ℕ) (table : Table) (prefix : List ℕ) (tokens : List Token) (made : List MadeObject)
    (token : Token) (new : Finding)
    : Type 0 where
  pub more : List ℕ
  pub type : Option ℕ
  pub trail : List (ℕ × ℕ)
  pub missed : List Missed
  pub passed :
      PassedBut (back ++ more) table (tokens ++ token ∷ []) (made ++ made_in type trail token)
      (way_positions new.way) missed
  pub held : IsHeld (back ++ more) (made ++ made_in type trail token) missed new
  pub known : Knows table prefix tokens new.seconds

-- After the bytes `prefix`, a token with the summary `summary` is consumed at the first of
-- `positions`. The header of the value states `stated` objects.
pub record ComesIn
    (positions : List OpenPosition) (table : Table) (stated : ℕ) (prefix : List ℕ) (old : Finding)
    (summary : Summary) (new : Finding)
    : Type 0 where
  pub leads :
      (back : List ℕ) (tokens : List Token) (made : List MadeObject) (missed : List Missed)
      (token : Token) → IsToken token → IsSummary summary token → IsHeld back made missed old
      → Knows table prefix tokens old.seconds → PassedBut back table tokens made positions missed
      → LeadsTo back table prefix tokens made token new
  pub refers :
      (token : Token) → IsSummary summary token
      → RefersBack token (length old.types.items) × (stated ≡ 0 → IsNoReference token)
  pub w32 :
      (token : Token) → IsSummary summary token
      → new.words.w32 + of_object words32 (measure_of token) ≡ old.words.w32
  pub w64 :
      (token : Token) → IsSummary summary token
      → new.words.w64 + of_object words64 (measure_of token) ≡ old.words.w64

-- The token is consumed at the position taken last, which precedes the open positions.
abbrev pub Comes : Table → ℕ → List ℕ → Finding → Expectation → Summary → Finding → Type 0
Comes table stated prefix old asked summary new =
    ComesIn (position_of asked (trail_in old.way)
    ∷ way_positions old.way) table stated prefix old summary
    new

-- The token is consumed at the first open position.
abbrev pub Follows : Table → ℕ → List ℕ → Finding → Summary → Finding → Type 0
Follows table stated prefix old summary new =
    ComesIn (way_positions old.way) table stated prefix old summary new

-- What each `Fast` means for a token with the given summary and length. `Took`: the token is
-- consumed at the first open position. `Kept`: nothing changed. `Inconclusive` states nothing.
abbrev pub RunsFast : Table → Finding → Summary → ℕ → Finding → Fast → Type 0
RunsFast table old summary len new (fasts.Took n) =
    (n ≡ len) × ((stated : ℕ) (prefix : List ℕ) → Follows table stated prefix old summary new)
RunsFast table old summary len new fasts.Kept = new ≡ old
RunsFast table old summary len new fasts.Inconclusive = Unit {0}

-- What each `Fast` means for the token at the start of the bytes. `Took`: the token is consumed at
-- the first open position. `Kept`: nothing changed. `Inconclusive` states nothing.
abbrev pub RunsFastBy : Table → List ℕ → Finding → Finding → Fast → Type 0
RunsFastBy table bytes old new (fasts.Took n) =
    (summary : Summary) × IsSummaryBy bytes summary n
    × ((stated : ℕ) (prefix : List ℕ) → Follows table stated prefix old summary new)
RunsFastBy table bytes old new fasts.Kept = new ≡ old
RunsFastBy table bytes old new fasts.Inconclusive = Unit {0}

-- ---- the end of the value

-- Everything that the header states was read, and the mismatch is `found`. No reference leads back
-- to a block on the path to the mismatch.
pub record EndsSearch (head : Head) (start n : ℕ) (finding : Finding)
    (found : FoundMismatch) : Type 0 where
  pub its : finding.found ≡ Some found
  pub alone : All (IsAlone finding.again.marks.items) found.links.items
  pub spent : IsSpent head start n finding.words (length finding.types.items)

-- The first `n` bytes are a value under the limit, and `found` describes the value's first fault.
pub record IsFound (table : Table) (limit n : ℕ) (bytes : List ℕ)
    (found : FoundMismatch) : Type 0 where
  pub missed : Missed
  pub prefix : IsMissedPrefix table limit n bytes missed
  pub at : IsMissedAt found missed

-- ---- a search over chunks

-- The bytes lead to the state of the search `s`.
abbrev pub IsSought : Table → ℕ → List ℕ → Seeking → Type 0
IsSought table limit bytes s = LeadsSearch table limit bytes s.head s.start s.at [] s.finding

-- What each `SearchEnd` means. `Found`: a value ends here, and its first fault was found.
-- `Truncated`: the bytes lead to an offset where a value is pending. `Inconclusive` states nothing.
abbrev pub Seeks : Table → ℕ → List ℕ → Seeking → SearchEnd → Type 0
Seeks table limit bytes s (ends.Found n) =
    (found : FoundMismatch) × (s.finding.found ≡ Some found) × IsFound table limit n bytes found
Seeks table limit bytes s ends.Truncated =
    IsSought table limit bytes s × (0 < values_at (way_positions s.finding.way))
Seeks table limit bytes s ends.Inconclusive = Unit {0}
