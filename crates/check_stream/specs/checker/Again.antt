-- Definitions for tokens that are read again, and for the objects to which a reference may lead
-- back.
use Rattle.std.specs.Prelude.{ℕ, ◌-◌, ◌*◌, ◌<◌, ◌≤◌, ◌≡◌, ◌⊎◌}
use Rattle.std.specs.Prelude.{List, [], ◌∷◌, ◌++◌, length, map, drop, take, slice_get, Some}
use Rattle.std.specs.Prelude.{Contains}
use Rattle.types_spec.specs.types.Table.{Table}
use Rattle.marshal_spec.specs.format.Words.{objects}
use Rattle.marshal_spec.specs.format.Token.{Token, shared, block, IsToken}
use Rattle.marshal_spec.specs.format.Token.{Encodes}
use Rattle.marshal_spec.specs.format.Token.{measure_of}
use Rattle.check_stream.specs.theory.AskedNeeds.{of_type, IsBackAt}
use Rattle.check_stream.specs.theory.Noted.{AreAt, AreFlat, flat_values, IsFlatNoted}
use Rattle.marshal_codec.specs.declared.token.summary.Summary.{Summary}
use Rattle.marshal_codec.specs.declared.token.summary.Summary.TheVariants as summaries
use Rattle.marshal_codec.specs.token.Summary.{IsSummary}

-- The bytes are the encodings of the tokens, one after another.
abbrev pub EncodeAll : List Token → List ℕ → Type 0
EncodeAll [] bytes = bytes ≡ []
EncodeAll (token ∷ tokens) bytes =
    (chunk rest : List ℕ) × (bytes ≡ chunk ++ rest) × Encodes token chunk × EncodeAll tokens rest

-- The first of the tokens that the bytes encode has this summary. The other tokens begin after
-- `len` bytes.
pub record IsFirst (seen : Summary) (len : ℕ) (bytes : List ℕ) (token : Token)
    (tokens : List Token)
    : Type 0 where
  pub is_token : IsToken token
  pub is_seen : IsSummary seen token
  pub encodes : EncodeAll tokens (drop len bytes)

-- Each list of tokens that the bytes encode begins with a token with this summary. The other tokens
-- begin after `len` bytes.
pub record Inspects (bytes : List ℕ) (seen : Summary) (len : ℕ) : Type 0 where
  pub some : 0 < len
  pub within : len ≤ length bytes
  pub is_first : (token : Token) (tokens : List Token) → EncodeAll (token ∷ tokens) bytes
      → IsFirst seen len bytes token tokens

-- The tokens are split into two lists. The second list begins at byte `at`, and the tokens of the
-- first list create `c` objects.
pub record IsPosition (prefix : List ℕ) (tokens : List Token) (at c : ℕ) : Type 0 where
  pub first : List Token
  pub last : List Token
  pub whole : tokens ≡ first ++ last
  pub made : objects (map measure_of first) ≡ c
  pub within : at ≤ length prefix
  pub encodes : EncodeAll last (drop at prefix)

-- Mark number `k` is the offset that was reached after `64 * k` objects.
abbrev pub AreMarks : List ℕ → List ℕ → List Token → Type 0
AreMarks prefix marks tokens =
    (k at : ℕ) → slice_get marks k ≡ Some at → IsPosition prefix tokens at (64 * k)

-- The object is a block, and the tokens of its fields begin at byte `at`.
pub record IsBlockAt (prefix : List ℕ) (tokens : List Token) (object tag size at : ℕ)
    : Type 0 where
  pub first : List Token
  pub last : List Token
  pub whole : tokens ≡ first ++ block tag size ∷ last
  pub made : objects (map measure_of first) ≡ object
  pub within : at ≤ length prefix
  pub encodes : EncodeAll last (drop at prefix)

-- If a list of tokens has these marks, then the object is a block whose fields begin at byte `at`.
pub record IsBlockIn (prefix marks : List ℕ) (object tag size at : ℕ) : Type 0 where
  pub within : at ≤ length prefix
  pub is_block : (tokens : List Token) → AreMarks prefix marks tokens
      → IsBlockAt prefix tokens object tag size at

-- The token is a block, and the fields of the block begin at byte `at`.
pub record IsBlockSeen (seen : Summary) (after tag size at : ℕ) : Type 0 where
  pub is_block : seen ≡ summaries.Block tag size
  pub is_after : at ≡ after

-- The tokens begin with flat fields of `object`, and the fields have these types.
pub record AreFields
    (table : Table) (types : List ℕ) (object : ℕ) (fields : List ℕ) (tokens : List Token)
    : Type 0 where
  pub flat : List Token
  pub rest : List Token
  pub whole : tokens ≡ flat ++ rest
  pub many : length flat ≡ length fields
  pub are_flat : AreFlat flat
  pub at : AreAt table types [] (flat_values object flat) (map of_type fields)

-- Each new note is one of the old notes or the note that `object` has the type `type`.
abbrev pub AreNotes : List (ℕ × ℕ) → ℕ → ℕ → List (ℕ × ℕ) → Type 0
AreNotes old object type new =
    (o t : ℕ) → Contains new (o, t)
    → Contains old (o, t) ⊎ (◌≡◌ {A = ℕ × ℕ} (object, type) (o, t))

-- A reference leads back to an object that has the type, or the position of the reference is a
-- wildcard. The object has the type because its first type is equal, because a note says so, or
-- because it is a flat block of the type. If the object is a flat block of the type, a note is
-- added.
abbrev pub IsKnown :
    Table → List ℕ → List ℕ → List ℕ → List (ℕ × ℕ) → List (ℕ × ℕ) → ℕ → ℕ → Type 0
IsKnown table types prefix marks old new type offset =
    ((1 ≤ offset) × (offset ≤ length types) × IsBackAt [] table types type offset × (new ≡ old))
    ⊎ ((1 ≤ offset) × (offset ≤ length types) × Contains old (length types - offset, type)
    × (new ≡ old))
    ⊎ ((1 ≤ offset) × (offset ≤ length types) × AreNotes old (length types - offset) type new
    × ((tokens : List Token) → AreMarks prefix marks tokens
    → IsFlatNoted table types [] tokens (length types - offset) type))

-- The bytes begin with a reference that has this offset and takes `n` bytes.
pub record IsReference (bytes : List ℕ) (offset n : ℕ) : Type 0 where
  pub some : 0 < n
  pub within : n ≤ length bytes
  pub encodes : Encodes (shared offset) (take n bytes)
