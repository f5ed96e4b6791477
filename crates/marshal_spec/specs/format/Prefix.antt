-- Incomplete bytes and refused bytes. Bytes are incomplete if no step that the bytes decide fails
-- and more bytes must follow. The definitions in this file are this project's own, over the format
-- of `intern.c`.
use Rattle.std.specs.Prelude.{ℕ, ◌<◌, ◌≡◌, ◌⊎◌, List, [], ◌∷◌, ◌++◌, length, take, map, Option}
use Rattle.std.specs.Prelude.{Some, None}
use Rattle.std.specs.List.{concat}
use Rattle.base_data.specs.declared.model.refusal.ReadRefusal.{ReadRefusal}
use Rattle.marshal_spec.specs.format.Header.{header_length, head_of}
use Rattle.marshal_spec.specs.format.Raw.{raw_length, raw_measure, IsRaw, IsPart}
use Rattle.marshal_spec.specs.format.Words.{pending, sums_of}
use Rattle.marshal_spec.specs.format.Step.{Context, first_refusal, header_steps, token_steps}

-- The context of the token that follows the header and the tokens `before`.
abbrev pub context : List ℕ → List (List ℕ) → Context
context header before = record {
  head = head_of header;
  start = length header;
  taken = length (concat before);
  sums = sums_of (map raw_measure before);
}

-- The tokens `before`, extended by the first token of the remaining bytes `rest`.
abbrev pub with_next : List (List ℕ) → List ℕ → List (List ℕ)
with_next before rest = before ++ take (raw_length rest) rest ∷ []

-- The refusal of the first step that the bytes `token` decide and that fails.
abbrev pub token_refusal : List ℕ → List (List ℕ) → List ℕ → Option ReadRefusal
token_refusal header before token =
    first_refusal (length token) (token_steps (context header before) token)

abbrev pub header_refusal : ℕ → List ℕ → Option ReadRefusal
header_refusal limit bytes = first_refusal (length bytes) (header_steps limit bytes)

-- After the tokens `before`, at least one value is still expected.
abbrev pub IsOpen : List (List ℕ) → Type 0
IsOpen before = 0 < pending (map raw_measure before)

-- The token is a complete raw token and passes its steps, and at least one value is expected before
-- the token.
pub record TokenPasses (header : List ℕ) (before : List (List ℕ)) (token : List ℕ) : Type 0 where
  pub open_before : IsOpen before
  pub raw : IsRaw token
  pub passes : token_refusal header before token ≡ None

-- Each of the consecutive tokens passes its steps after the tokens `before`.
abbrev pub TokensPass : List ℕ → List (List ℕ) → List (List ℕ) → Type 0
TokensPass header before [] = Unit {0}
TokensPass header before (token ∷ tokens) =
    TokenPasses header before token × TokensPass header (before ++ token ∷ []) tokens

-- The header is a complete raw header and passes its steps.
pub record HeaderPasses (limit : ℕ) (header : List ℕ) : Type 0 where
  pub raw : length header ≡ header_length header
  pub passes : header_refusal limit header ≡ None

-- The bytes are a proper prefix of a raw header and pass the steps that the bytes decide.
pub record InHeader (limit : ℕ) (bytes : List ℕ) : Type 0 where
  pub part : length bytes < header_length bytes
  pub passes : header_refusal limit bytes ≡ None

-- The bytes are a header and tokens that pass, and then `last`. The bytes `last` are a proper
-- prefix of the next raw token and pass the steps that `last` decides.
pub record InTokens (limit : ℕ) (bytes header : List ℕ) (tokens : List (List ℕ)) (last : List ℕ)
    : Type 0 where
  pub bytes_are : bytes ≡ header ++ (concat tokens ++ last)
  pub header_passes : HeaderPasses limit header
  pub tokens_pass : TokensPass header [] tokens
  pub open_before : IsOpen tokens
  pub part : IsPart last
  pub passes : token_refusal header tokens last ≡ None

-- The bytes are incomplete: no step that the bytes decide fails, and more bytes must follow.
abbrev pub IsPrefix : ℕ → List ℕ → Type 0
IsPrefix limit bytes =
    InHeader limit bytes
    ⊎ ((header : List ℕ) × (tokens : List (List ℕ)) × (last : List ℕ)
    × InTokens limit bytes header tokens last)

-- The last byte decides a failing step of the header. All bytes before the last byte are a part of
-- a header that passes.
pub record RefusedInHeader (limit : ℕ) (bytes : List ℕ) (refusal : ReadRefusal) : Type 0 where
  pub prefix : List ℕ
  pub last : ℕ
  pub bytes_are : bytes ≡ prefix ++ last ∷ []
  pub in_header : InHeader limit prefix
  pub refused : header_refusal limit bytes ≡ Some refusal

pub record RefusedInTokens (limit : ℕ) (bytes : List ℕ) (refusal : ReadRefusal) : Type 0 where
  pub prefix : List ℕ
  pub last : ℕ
  pub header : List ℕ
  pub tokens : List (List ℕ)
  pub part : List ℕ
  pub bytes_are : bytes ≡ prefix ++ last ∷ []
  pub in_tokens : InTokens limit prefix header tokens part
  pub refused : token_refusal header tokens (part ++ last ∷ []) ≡ Some refusal

-- All bytes but the last are incomplete, and the last byte decides the first step that fails.
abbrev pub IsRefused : ℕ → List ℕ → ReadRefusal → Type 0
IsRefused limit bytes refusal =
    RefusedInHeader limit bytes refusal ⊎ RefusedInTokens limit bytes refusal
