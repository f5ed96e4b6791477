-- Bytes that lead to an offset inside a value are a prefix of the value.
use Rattle.std.specs.Prelude.{ℕ, ◌^◌, ◌<◌, ◌≤◌, ◌≡◌, List, [], ◌++◌, All}
use Rattle.std.specs.List.{concat, AllZip}
use Rattle.marshal_spec.specs.format.Header.{head_of}
use Rattle.marshal_spec.specs.format.Token.{Token, Encodes}
use Rattle.marshal_spec.specs.format.Preorder.{OpenBefore, EachRefersBack}
use Rattle.marshal_spec.specs.format.Encoded.{IsHeader, IsNoReference}
use Rattle.marshal_spec.specs.format.Prefix.{IsPrefix, context}
use Rattle.check_stream.specs.truncated.Truncated.{HasRoom, IsTruncated}

-- The bytes are a header under the limit, encodings of tokens that may follow the header, and the
-- bytes `rest`.
pub record IsUnderway
    (limit : ℕ) (bytes header : List ℕ) (chunks : List (List ℕ)) (tokens : List Token)
    (rest : List ℕ)
    : Type 0 where
  pub bytes_are : bytes ≡ header ++ (concat chunks ++ rest)
  pub is_header : IsHeader header
  pub words : (head_of header).w64 ≤ limit
  pub small : (head_of header).length < 2 ^ 48
  pub encodes : AllZip Encodes tokens chunks
  pub open_before : OpenBefore [] tokens
  pub refer_back : EachRefersBack 0 tokens
  pub unshared : (head_of header).objects ≡ 0 → All IsNoReference tokens

-- If `rest` is a part of a token for which the header has room, then the bytes are a prefix of a
-- value.
abbrev pub UnderwayIsPrefix : Type 0
UnderwayIsPrefix =
    (limit : ℕ) (bytes header : List ℕ) (chunks : List (List ℕ)) (tokens : List Token)
    (rest : List ℕ) (n few32 few64 : ℕ) → IsUnderway limit bytes header chunks tokens rest
    → IsTruncated n few32 few64 rest → HasRoom (context header chunks) n few32 few64
    → IsPrefix limit bytes
