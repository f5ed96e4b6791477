-- Bytes that are the canonical bytes of the value that the bytes encode.
use Rattle.std.specs.Prelude.{ℕ, ◌≤◌, ◌≡◌, false, List, length, take, All, map}
use Rattle.marshal_spec.specs.format.Header.{magic, small_magic, head_of}
use Rattle.marshal_spec.specs.format.Words.{objects}
use Rattle.marshal_spec.specs.format.Token.{Token, IsToken, measure_of}
use Rattle.marshal_spec.specs.format.Tree.{Tree}
use Rattle.marshal_spec.specs.format.Encoded.{EncodedUnder}
use Rattle.marshal_spec.specs.format.Canonical.{encoding, data_encoding, header_encoding, canon}
use Rattle.marshal_spec.specs.canonical.Laws.{HasEncoding}
use Rattle.marshal_codec.specs.headers.Encoding.{HasSmallNumbers}

-- If the bytes encode a tree under some limit, then the bytes are the canonical bytes of the tree.
abbrev pub IsCanonicalBytes : List ℕ → Type 0
IsCanonicalBytes bytes =
    (limit : ℕ) (tree : Tree) → EncodedUnder limit bytes tree → bytes ≡ canon tree

-- ---- tokens

-- The token is valid and can be encoded.
abbrev pub CanBeEncoded : Token → Type 0
CanBeEncoded token = IsToken token × HasEncoding token

-- The first `n` bytes are the canonical encoding of the token.
pub record StandsFirst (token : Token) (n : ℕ) (bytes : List ℕ) : Type 0 where
  pub within : n ≤ length bytes
  pub encodable : CanBeEncoded token
  pub encoded : take n bytes ≡ encoding token

-- The first `n` bytes are the canonical encoding of some token.
abbrev pub BeginsCanonical : ℕ → List ℕ → Type 0
BeginsCanonical n bytes = (token : Token) × StandsFirst token n bytes

-- The bytes are the canonical encodings of the tokens, one after another.
pub record AreEncoded (tokens : List Token) (bytes : List ℕ) : Type 0 where
  pub encodable : All CanBeEncoded tokens
  pub encoded : data_encoding tokens ≡ bytes

abbrev pub AreCanonical : List ℕ → Type 0
AreCanonical bytes = (tokens : List Token) × AreEncoded tokens bytes

-- The bytes are the canonical encodings of tokens that make no object.
abbrev pub AreBare : List ℕ → Type 0
AreBare bytes =
    (tokens : List Token) × AreEncoded tokens bytes × (objects (map measure_of tokens) ≡ 0)

-- ---- the header

-- The header is small, is encoded as the runtime encodes headers, and states the number `objects`.
pub record IsOwnHeader (header : List ℕ) (objects : ℕ) : Type 0 where
  pub small : magic header ≡ small_magic
  pub big_is : (head_of header).big ≡ false
  pub numbers : HasSmallNumbers (head_of header)
  pub objects_are : (head_of header).objects ≡ objects
  pub encoded : header ≡ header_encoding (head_of header)
