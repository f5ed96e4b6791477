-- The state after some bytes of a value. The state has the header, the complete tokens, the graph
-- that the tokens build, and the buffered part of the next token.
use Rattle.std.specs.Prelude.{ℕ, ◌+◌, ◌-◌, ◌<◌, ◌≤◌, ◌≡◌, List, [], ◌++◌, length, take, Option}
use Rattle.std.specs.Prelude.{Some, None, Result, Ok, Err}
use Rattle.std.specs.List.{concat}
use Rattle.base_data.specs.declared.model.refusal.ReadRefusal.{ReadRefusal}
use Rattle.marshal_spec.specs.format.Raw.{IsPart}
use Rattle.marshal_spec.specs.format.Prefix.{token_refusal, HeaderPasses, TokensPass, InHeader}
use Rattle.marshal_read.specs.declared.unread.Unread.{Unread}
use Rattle.marshal_read.specs.declared.unread.Unread.TheVariants.{NeedMore, Refused}
use Rattle.marshal_read.specs.declared.read_totals.ReadTotals.{ReadTotals}
use Rattle.marshal_read.specs.declared.reading.Reading.{Reading}
use Rattle.marshal_read.specs.declared.chunks.Chunks.{Chunks}
use Rattle.marshal_read.specs.Build.{Bounded, start}
use Rattle.marshal_read.specs.Reading.{BuildsGraph, RefusedIn}

-- The header and the tokens `before` pass, `totals` are the sums of the tokens, and `state` is the
-- graph that the tokens build. The bytes `part` are a part of the next token and pass every step
-- that `part` decides. After the last token, `part` is empty.
pub record LeadsTokens (limit : ℕ) (taken header : List ℕ) (before : List (List ℕ))
    (totals : ReadTotals) (state : Bounded) (part : List ℕ) : Type 0 where
  pub bytes_are : taken ≡ header ++ (concat before ++ part)
  pub header_passes : HeaderPasses limit header
  pub tokens_pass : TokensPass header [] before
  pub builds : BuildsGraph header before totals state
  pub is_part : IsPart part
  pub passes : token_refusal header before part ≡ None
  pub ends : totals.pending ≡ 0 → part ≡ []

-- If there are no totals, then the bytes are a part of a header that passes every step decided so
-- far. If there are totals, then the bytes are a header and what follows the header.
abbrev pub LeadsAs : Option ReadTotals → ℕ → List ℕ → Bounded → List ℕ → Type 0
LeadsAs None limit taken state part = (taken ≡ part) × InHeader limit part × (state.built ≡ start)
LeadsAs (Some totals) limit taken state part =
    (header : List ℕ) × (before : List (List ℕ))
    × LeadsTokens limit taken header before totals state part

-- All tokens of the value are read.
abbrev pub IsWhole : Option ReadTotals → Type 0
IsWhole None = ⊥
IsWhole (Some totals) = totals.pending ≡ 0

-- ---- the next header or token, of which a part was read before

abbrev pub NextRead : ℕ → List ℕ → List ℕ → List ℕ → Reading → Result ℕ Unread → Type 0
NextRead limit taken part more new (Ok len) =
    (length part < len) × (len ≤ length part + length more)
    × LeadsAs new.totals limit (taken ++ take (len - length part) more) new.builder []
NextRead limit taken part more new (Err NeedMore) =
    LeadsAs new.totals limit (taken ++ more) new.builder (part ++ more)
NextRead limit taken part more new (Err (Refused refusal)) = RefusedIn limit (taken ++ more) refusal

-- Tokens of `n` bytes are read. If the last token of the value is read, then all data of the value
-- are read.
abbrev pub TakesCommon : ℕ → List ℕ → List ℕ → ReadTotals → Bounded → ℕ → Type 0
TakesCommon limit taken bytes next new n =
    (n ≤ length bytes)
    × (next.pending ≡ 0 → (0 < n) × (next.taken ≡ next.head.length))
    × LeadsAs (Some next) limit (taken ++ take n bytes) new []

-- ---- chunks

-- The bytes `taken` lead to the reading and the buffered part of `chunks`.
abbrev pub LeadsChunks : ℕ → List ℕ → Chunks → Type 0
LeadsChunks limit taken chunks =
    (chunks.reading.limit ≡ limit)
    × LeadsAs chunks.reading.totals limit taken chunks.reading.builder chunks.part.items

-- The result of a step: at least one of the bytes is consumed, or some prefix of the bytes is
-- refused.
abbrev pub Takes : ℕ → List ℕ → List ℕ → Chunks → Result ℕ ReadRefusal → Type 0
Takes limit taken rest new (Ok n) =
    (0 < n) × (n ≤ length rest) × LeadsChunks limit (taken ++ take n rest) new
Takes limit taken rest new (Err refusal) = RefusedIn limit (taken ++ rest) refusal

-- The whole chunk is consumed, or the prefix of the chunk that ends the value is consumed, or some
-- prefix is refused.
abbrev pub TakesChunk : ℕ → List ℕ → List ℕ → Chunks → Result ℕ ReadRefusal → Type 0
TakesChunk limit taken chunk new (Ok n) =
    (n ≤ length chunk) × LeadsChunks limit (taken ++ take n chunk) new
    × ((IsWhole new.reading.totals → ⊥) → n ≡ length chunk)
TakesChunk limit taken chunk new (Err refusal) = RefusedIn limit (taken ++ chunk) refusal
