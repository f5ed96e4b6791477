-- Bytes that begin with a value with exactly one mismatch, and the invariant of the streaming check
-- over such bytes.
use Rattle.std.specs.Prelude.{ℕ, ◌+◌, ◌≤◌, ◌<◌, ◌^◌, ◌≡◌, ◌⊎◌}
use Rattle.std.specs.Prelude.{List, [], ◌∷◌, ◌++◌, length, map, take, All, Contains}
use Rattle.std.specs.List.{concat, AllZip}
use Rattle.base_data.specs.declared.model.header.Head.{Head}
use Rattle.types_spec.specs.types.LawfulShapes.{AreLawful, Everything}
use Rattle.types_spec.specs.types.Table.{Table, table_shapes}
use Rattle.marshal_spec.specs.format.Words.{objects, all_words32, all_words64}
use Rattle.marshal_spec.specs.format.Header.{head_of}
use Rattle.marshal_spec.specs.format.Token.{Token, Encodes, measure_of}
use Rattle.marshal_spec.specs.format.Tree.{Tree, root, objects_of}
use Rattle.marshal_spec.specs.format.Preorder.{EachRefersBack}
use Rattle.marshal_spec.specs.format.Encoded.{EncodedUnder, IsHeader, IsNoReference, StatesWords32}
use Rattle.check_stream.specs.mismatch_theory.MissedLaw.{IsLeastMissed}
use Rattle.check_stream.specs.mismatch_theory.PassedBut.{OpenPosition, MadeObject, Missed}
use Rattle.check_stream.specs.mismatch_theory.PassedBut.{PassedBut}

-- The first `n` bytes encode a value within the limit, and `missed` is the value's first fault at
-- type 0 of the table.
pub record IsMissedPrefix (table : Table) (limit n : ℕ) (bytes : List ℕ) (missed : Missed)
    : Type 0 where
  pub within : n ≤ length bytes
  pub tree : Tree
  pub encoded : EncodedUnder limit (take n bytes) tree
  pub least : IsLeastMissed table (objects_of tree 0) (root tree 0) missed

-- The invariant of the streaming check. The first `n` bytes are a header, of `start` bytes, and the
-- encodings of the tokens. The tokens lead to these objects, open positions and mismatches.
pub record IsPassingBut
    (back : List ℕ) (table : Table) (limit : ℕ) (bytes : List ℕ) (head : Head) (start n : ℕ)
    (tokens : List Token) (made : List MadeObject) (positions : List OpenPosition)
    (missed : List Missed)
    : Type 0 where
  pub header : List ℕ
  pub chunks : List (List ℕ)
  pub within : n ≤ length bytes
  pub is_header : IsHeader header
  pub head_is : head_of header ≡ head
  pub begins : length header ≡ start
  pub taken : take n bytes ≡ header ++ concat chunks
  pub encodes : AllZip Encodes tokens chunks
  pub refer_back : EachRefersBack 0 tokens
  pub many : objects (map measure_of tokens) ≡ length made
  pub unshared : head.objects ≡ 0 → All IsNoReference tokens
  pub passed : PassedBut back table tokens made positions missed
  pub words : head.w64 ≤ limit
  pub small : head.length < 2 ^ 48

-- The header states the number of data bytes that were read, and the sizes in words. The header
-- also states the number of objects, or states 0 objects.
pub record IsStated (head : Head) (start n : ℕ) (tokens : List Token) (many : ℕ) : Type 0 where
  pub whole : n ≡ start + head.length
  pub w32 : StatesWords32 head.big head.w32 (all_words32 (map measure_of tokens))
  pub w64 : head.w64 ≡ all_words64 (map measure_of tokens)
  pub count : (head.objects ≡ 0) ⊎ (head.objects ≡ many)

-- The bytes begin with a value whose first fault is this mismatch if:
--
-- - the streaming check finds only this mismatch,
-- - no position is open,
-- - no reference leads back to a block of the mismatch's trail.
abbrev pub OneMissedPrefixes : Type 0
OneMissedPrefixes =
    (table : Table) (limit : ℕ) (bytes : List ℕ) (head : Head) (start n : ℕ) (tokens : List Token)
    (back : List ℕ) (made : List MadeObject) (missed : Missed)
    → AreLawful (table_shapes table) Everything
    → IsPassingBut back table limit bytes head start n tokens made [] (missed ∷ [])
    → IsStated head start n tokens (length made)
    → All (λ (link : ℕ × ℕ). ¬ Contains back link.0) missed.trail
    → IsMissedPrefix table limit n bytes missed
