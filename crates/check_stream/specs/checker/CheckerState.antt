-- The state of the pass, and the effect of a token on the state.
use Rattle.std.specs.Prelude.{ℕ, ◌+◌, ◌-◌, ◌*◌, ◌^◌, ◌<◌, ◌≤◌, ◌≡◌, if◌then◌else◌}
use Rattle.std.specs.Prelude.{List, [], ◌∷◌, ◌++◌, length, map, take, drop, ◌⊎◌, false, Contains}
use Rattle.std.specs.Prelude.{Bool, Result, IfOk}
use Rattle.std.specs.Bool.{OnTrue}
use Rattle.base_data.specs.declared.model.code.CodeKind.{CodeKind}
use Rattle.base_data.specs.declared.model.code.Measure.{Measure}
use Rattle.base_data.specs.declared.model.header.Head.{Head}
use Rattle.types_spec.specs.types.Table.{Table}
use Rattle.marshal_spec.specs.format.Words.{of_object, words32, words64, all_words32, all_words64}
use Rattle.marshal_spec.specs.format.Header.{magic, small_magic, big_magic, header_length, head_of}
use Rattle.marshal_spec.specs.format.Token.{Token, IsToken, Encodes, EncodesAfter, measure_of}
use Rattle.marshal_spec.specs.format.Tree.{RefersBack}
use Rattle.marshal_spec.specs.format.Encoded.{IsNoReference}
use Rattle.marshal_codec.specs.declared.token.summary.Summary.{Summary}
use Rattle.marshal_codec.specs.token.Summary.{IsSummary}
use Rattle.check_stream.specs.theory.AskedNeeds.{Need, of_type, Asks, type_in}
use Rattle.check_stream.specs.theory.Noted.{IsFlatNoted}
use Rattle.check_stream.specs.theory.OnePass.{IsPassing, IsTypedPrefix}
use Rattle.check_stream.specs.declared.checker.stated_words.Words.{Words}
use Rattle.check_stream.specs.declared.checker.check_state.CheckState.{CheckState}
use Rattle.check_stream.specs.declared.checker.checker_step.TokenResult.{TokenResult}
use Rattle.check_stream.specs.declared.checker.checker_step.TokenResult.TheVariants as answers
use Rattle.check_stream.specs.declared.checker.whole.PassStop.{PassStop}
use Rattle.check_stream.specs.declared.checker.whole.PassStop.TheVariants as stops
use Rattle.check_stream.specs.declared.checker.passing.Passing.{Passing}
use Rattle.check_stream.specs.checker.Again.{AreMarks, IsReference, IsKnown}
use Rattle.check_stream.specs.checker.OpenPositions.{positions_needs}

-- The types of the objects so far, in the order of the object numbers.
abbrev pub types_in : CheckState → List ℕ
types_in state = state.types.items

abbrev pub needs_in : CheckState → List Need
needs_in state = positions_needs state.positions

-- The words on a 32-bit platform that a header allows. A big header states no words for 32-bit
-- platforms, and allows the maximum.
abbrev pub stated32 : Head → ℕ
stated32 head = if head.big then 2 ^ 64 - 1 else head.w32

-- The remaining words before an object and after the object.
pub record SpendsWords (old : Words) (measure : Measure) (new : Words) : Type 0 where
  pub w32 : new.w32 + words32 measure ≡ old.w32
  pub w64 : new.w64 + words64 measure ≡ old.w64

-- If the token was accepted and memory was sufficient, then `P` holds.
abbrev pub IfTook : {E : Type 0} → Result Bool E → Type 0 → Type 0
IfTook result P = IfOk result (λ took. OnTrue took P)

-- A token was accepted at a position with this requirement.
pub record Took (table : Table) (old new : CheckState) (need : Need) (token : Token) : Type 0 where
  pub next : List Need
  pub asks : Asks [] table (types_in old) need token next
  pub types : types_in new ≡ types_in old ++ type_in need token
  pub needs : needs_in new ≡ next ++ needs_in old
  pub w32 : new.words.w32 + of_object words32 (measure_of token) ≡ old.words.w32
  pub w64 : new.words.w64 + of_object words64 (measure_of token) ≡ old.words.w64

-- An object without fields was accepted, with this type and this measure.
pub record TookLeaf (old new : CheckState) (type : ℕ) (measure : Measure) : Type 0 where
  pub types : types_in new ≡ types_in old ++ type ∷ []
  pub positions : new.positions ≡ old.positions
  pub w32 : new.words.w32 + words32 measure ≡ old.words.w32
  pub w64 : new.words.w64 + words64 measure ≡ old.words.w64

-- The token is valid after `made` objects if the header states `stated` objects.
pub record IsThere (token : Token) (made stated : ℕ) : Type 0 where
  pub is_token : IsToken token
  pub back : RefersBack token made
  pub unshared : stated ≡ 0 → IsNoReference token

-- A token with this summary was accepted, and the token is no reference.
abbrev pub TookSummary : Table → CheckState → CheckState → Need → Summary → Type 0
TookSummary table old new need summary =
    (token : Token) → IsSummary summary token → IsNoReference token × Took table old new need token

-- The token that consists of a code of this kind and these bytes was accepted.
pub record TookChunk
    (table : Table) (stated : ℕ) (old new : CheckState) (need : Need) (kind : CodeKind)
    (chunk : List ℕ)
    : Type 0 where
  pub token : Token
  pub encodes : EncodesAfter kind chunk token
  pub there : IsThere token (length (types_in old)) stated
  pub took : Took table old new need token

-- The pass accepted the token that the first `n` bytes encode, at a position with the requirement
-- `need`.
pub record TookPrefix
    (table : Table) (stated : ℕ) (old new : CheckState) (need : Need) (rest : List ℕ) (n : ℕ)
    : Type 0 where
  pub within : n ≤ length rest
  pub token : Token
  pub encodes : Encodes token (take n rest)
  pub there : IsThere token (length (types_in old)) stated
  pub took : Took table old new need token

-- The pass accepted the token that the first `n` bytes encode, at the first open position.
pub record TookFirst
    (table : Table) (stated : ℕ) (old new : CheckState) (rest : List ℕ) (n : ℕ) : Type 0 where
  pub middle : CheckState
  pub need : Need
  pub types : types_in middle ≡ types_in old
  pub needs : needs_in old ≡ need ∷ needs_in middle
  pub words : middle.words ≡ old.words
  pub took : TookPrefix table stated middle new need rest n

-- What each `TokenResult` means for the token at the beginning of the bytes.
abbrev pub IsAnswer : Table → ℕ → CheckState → CheckState → Need → List ℕ → TokenResult → Type 0
IsAnswer table stated old new need rest (answers.Took n) =
    (0 < n) × TookPrefix table stated old new need rest n
IsAnswer table stated old new need rest answers.Back = new ≡ old
IsAnswer table stated old new need rest answers.Unfit = Unit {0}

-- The bytes begin with a reference whose position requires a type, and the referenced object has
-- the required type.
pub record TookBack
    (table : Table) (stated : ℕ) (types prefix marks : List ℕ) (old new : List (ℕ × ℕ))
    (need : Need)
    (rest : List ℕ) (n : ℕ)
    : Type 0 where
  pub type : ℕ
  pub is_asked : need ≡ of_type type
  pub offset : ℕ
  pub some : 0 < stated
  pub reference : IsReference rest offset n
  pub known : IsKnown table types prefix marks old new type offset

-- The pass accepted the token that begins at offset `at` and has `n` bytes.
abbrev pub TookTurn :
    Table → ℕ → CheckState → CheckState → Need → List ℕ → List ℕ → List (ℕ × ℕ) → List (ℕ × ℕ) → ℕ
    → ℕ
    → Type 0
TookTurn table stated old new need bytes marks notes notes' at n =
    ((notes' ≡ notes) × TookPrefix table stated old new need (drop at bytes) n)
    ⊎ ((new ≡ old)
    × TookBack table stated (types_in old) (take at bytes) marks notes notes' need
    (drop at bytes) n)

-- The bytes begin with this header, which states at most `limit` words.
pub record BeginsAs (limit : ℕ) (bytes : List ℕ) (head : Head) : Type 0 where
  pub magic_is : (magic bytes ≡ small_magic) ⊎ (magic bytes ≡ big_magic)
  pub whole : header_length bytes ≤ length bytes
  pub head_is : head ≡ head_of bytes
  pub words : head.w64 ≤ limit
  pub small : head.length < 2 ^ 48

-- The recorded second types are valid: each recorded object was read already and is a flat block of
-- its second type.
abbrev pub AreNoted : Table → List ℕ → List (ℕ × ℕ) → List Token → Type 0
AreNoted table types noted tokens =
    (o t : ℕ) → Contains noted (o, t)
    → (o < length types) × IsFlatNoted table types noted tokens o t

-- The first `n` bytes lead to this state of the pass, with these marks and these notes on second
-- types.
pub record LeadsPass
    (table : Table) (limit : ℕ) (bytes : List ℕ) (head : Head) (start n : ℕ) (marks : List ℕ)
    (notes : List (ℕ × ℕ)) (state : CheckState)
    : Type 0 where
  pub tokens : List Token
  pub noted : List (ℕ × ℕ)
  pub passing :
      IsPassing noted table limit bytes head start n tokens (types_in state) (needs_in state)
  pub w32 : state.words.w32 + all_words32 (map measure_of tokens) ≡ stated32 head
  pub w64 : state.words.w64 + all_words64 (map measure_of tokens) ≡ head.w64
  pub are_noted : AreNoted table (types_in state) noted tokens
  pub are_marks : AreMarks (take n bytes) marks tokens
  pub are_known : (o t : ℕ) → Contains notes (o, t) → Contains noted (o, t)

-- The bytes before `rest` lead to this state of the pass.
pub record IsLeft
    (table : Table) (limit : ℕ) (bytes : List ℕ) (head : Head) (start : ℕ) (marks : List ℕ)
    (notes : List (ℕ × ℕ)) (state : CheckState) (rest : List ℕ)
    : Type 0 where
  pub rest_is : rest ≡ drop (length bytes - length rest) bytes
  pub short : length rest ≤ length bytes
  pub leads :
      LeadsPass table limit bytes head start (length bytes - length rest) marks notes state

-- If the number of objects is 64 times the number of marks, the offset `at` may be added as a mark.
-- No other mark is added.
abbrev pub IsMarked : List ℕ → ℕ → ℕ → List ℕ → Type 0
IsMarked old at made new =
    (new ≡ old) ⊎ ((made ≡ 64 * length old) × (new ≡ old ++ at ∷ []))

-- The bytes from `start` to `n`, with the words left and the objects made, are all the data, words
-- and objects that the header states.
pub record IsSpent (head : Head) (start n : ℕ) (words : Words) (objects : ℕ) : Type 0 where
  pub whole : n ≡ start + head.length
  pub w32 : head.big ≡ false → words.w32 ≡ 0
  pub w64 : words.w64 ≡ 0
  pub count : (head.objects ≡ 0) ⊎ (head.objects ≡ objects)

-- What each `PassStop` means. `Typed`: a value of the type ends here. `Truncated`: the bytes lead
-- to the state and a value is still to be read. `Inconclusive` states nothing.
abbrev pub StopsAt :
    Table → ℕ → List ℕ → Head → ℕ → List ℕ → List (ℕ × ℕ) → CheckState → PassStop → Type 0
StopsAt table limit bytes head start marks notes state (stops.Typed n) =
    IsTypedPrefix table limit n bytes
StopsAt table limit bytes head start marks notes state (stops.Truncated at) =
    LeadsPass table limit bytes head start at marks notes state × (0 < length (needs_in state))
StopsAt table limit bytes head start marks notes state (stops.Inconclusive at) = Unit {0}

-- The bytes lead to the state of the check `p`.
abbrev pub IsUnderway : Table → ℕ → List ℕ → Passing → Type 0
IsUnderway table limit bytes p =
    LeadsPass table limit bytes p.head p.start p.at p.marks.items p.notes.items p.state

-- What each `PassStop` means for the check `p`.
abbrev pub Stops : Table → ℕ → List ℕ → Passing → PassStop → Type 0
Stops table limit bytes p (stops.Typed n) = IsTypedPrefix table limit n bytes
Stops table limit bytes p (stops.Truncated at) =
    IsUnderway table limit bytes p × (p.at ≡ at) × (0 < length (needs_in p.state))
Stops table limit bytes p (stops.Inconclusive at) = Unit {0}
