-- What the bytes begin with: a header or token that passes, a proper prefix of one, or a refusal
-- with the least number of bytes.
use Rattle.std.proofs.Common.{◌≡◌, ℕ, ◌+◌, ◌-◌, ◌<◌, ◌≤◌, List, [], ◌∷◌, ◌++◌, length, take, Some, None, inl, inr, refl, sym, ◌∙◌, ap, arith, slice_index, length-append, length-take, length-take-le, take_at, append_assoc}
use Rattle.std.proofs.lemmas.Bool.{cases_lt}
use Rattle.std.proofs.lemmas.List.{take_more}
use Rattle.std.proofs.Math.Seq.{take-append-add}
use Rattle.std.specs.List.{concat}
use Rattle.base_data.specs.declared.model.refusal.ReadRefusal.{ReadRefusal}
use Rattle.marshal_spec.specs.format.Raw.{raw_length, raw_measure, IsRaw, IsPart}
use Rattle.marshal_spec.specs.format.Header.{header_length}
use Rattle.marshal_spec.specs.format.Step.{first_refusal, header_steps, token_steps}
use Rattle.marshal_spec.specs.format.Prefix.{context, token_refusal, header_refusal, IsOpen, TokensPass, HeaderPasses, InHeader, IsRefused}
use Rattle.marshal_spec.proofs.format.RawLemmas.{IsPart-take, IsRaw-take, raw_measure-take}
use Rattle.marshal_spec.proofs.format.FormatStepLemmas.{LeastRefusal, least_refusal, least_refusal-within, first_refusal-more, first_refusal-fewer}
use Rattle.marshal_spec.proofs.format.TokenStepLemmas.{token_steps-within, token_steps-take, header_steps-within, header_steps-take, header_length-take, header_length-from}

-- The first `n` bytes are the first `n` - 1 bytes and one more byte.
pub take-last : (n : ℕ) (bytes : List ℕ) → 1 ≤ n → n ≤ length bytes → take n bytes ≡ take (n - 1) bytes ++ slice_index bytes (n - 1) ∷ []
take-last n bytes p l =
    let e : n ≡ n - 1 + 1 = omega arith in
    ap (λ m. take m bytes) e ∙ take_more bytes (n - 1) 0 (omega arith)

-- ---- refusals of prefixes

-- The refusal of the first `n` bytes of a token is the first refusal of the token's steps that `n`
-- bytes decide.
pub token_refusal-take : (header : List ℕ) (before : List (List ℕ)) (n : ℕ) (bytes : List ℕ) → n ≤ length bytes
    → token_refusal header before (take n bytes) ≡ first_refusal n (token_steps (context header before) bytes)
token_refusal-take header before n bytes l =
    ap (λ k. first_refusal k (token_steps (context header before) (take n bytes))) (length-take-le n bytes l)
    ∙ token_steps-take (context header before) n n bytes (omega arith)

pub header_refusal-take : (limit n : ℕ) (bytes : List ℕ) → n ≤ length bytes → header_refusal limit (take n bytes) ≡ first_refusal n (header_steps limit bytes)
header_refusal-take limit n bytes l =
    ap (λ k. first_refusal k (header_steps limit (take n bytes))) (length-take-le n bytes l)
    ∙ header_steps-take limit n n bytes (omega arith)

-- If a prefix of bytes is refused, then the bytes are refused for the same reason.
pub token_refusal-append : (header : List ℕ) (before : List (List ℕ)) (prefix more : List ℕ) (r : ReadRefusal)
    → token_refusal header before prefix ≡ Some r → token_refusal header before (prefix ++ more) ≡ Some r
token_refusal-append header before prefix more r h =
    let n = length prefix in
    let whole = prefix ++ more in
    let l : n ≤ length whole = omega (arith, length-append prefix more) in
    let same : take n whole ≡ prefix = take_at prefix more n refl in
    first_refusal-more n (length whole) (token_steps (context header before) whole) r l
    (sym (token_refusal-take header before n whole l) ∙ (ap (token_refusal header before) same ∙ h))

pub header_refusal-append : (limit : ℕ) (prefix more : List ℕ) (r : ReadRefusal)
    → header_refusal limit prefix ≡ Some r → header_refusal limit (prefix ++ more) ≡ Some r
header_refusal-append limit prefix more r h =
    let n = length prefix in
    let whole = prefix ++ more in
    let l : n ≤ length whole = omega (arith, length-append prefix more) in
    let same : take n whole ≡ prefix = take_at prefix more n refl in
    first_refusal-more n (length whole) (header_steps limit whole) r l
    (sym (header_refusal-take limit n whole l) ∙ (ap (header_refusal limit) same ∙ h))

-- ---- a token at the beginning

-- The token at the beginning of `rest` is refused. The field `count` is the least number of bytes
-- that are refused.
pub record RefusedNext (header : List ℕ) (before : List (List ℕ)) (rest : List ℕ) (refusal : ReadRefusal) : Type 0 where
  pub count : ℕ
  pub pos : 1 ≤ count
  pub within : count ≤ length rest
  pub most : count ≤ raw_length rest
  pub split : take count rest ≡ take (count - 1) rest ++ slice_index rest (count - 1) ∷ []
  pub refuses : first_refusal count (token_steps (context header before) (take count rest)) ≡ Some refusal
  pub refused : token_refusal header before (take count rest) ≡ Some refusal
  pub part : IsPart (take (count - 1) rest)
  pub passes : first_refusal (count - 1) (token_steps (context header before) (take (count - 1) rest)) ≡ None
  pub passed : token_refusal header before (take (count - 1) rest) ≡ None

refused_from : (header : List ℕ) (before : List (List ℕ)) (rest : List ℕ) (r : ReadRefusal)
    → LeastRefusal (length rest) (token_steps (context header before) rest) r → RefusedNext header before rest r
refused_from header before rest r h =
    let c = context header before in
    let n = h.least in
    let bounds : (1 ≤ n) × (n ≤ raw_length rest) = least_refusal-within 1 (raw_length rest) (length rest) (token_steps c rest) r (token_steps-within c rest) h in
    let within : n ≤ length rest = h.within in
    let fewer : first_refusal (n - 1) (token_steps c rest) ≡ None = h.before (n - 1) (omega (arith, bounds.0)) in
    record {
      count = n;
      pos = bounds.0;
      within = within;
      most = bounds.1;
      split = take-last n rest bounds.0 within;
      refuses = token_steps-take c n n rest (omega arith) ∙ h.refuses;
      refused = token_refusal-take header before n rest within ∙ h.refuses;
      part = IsPart-take (n - 1) rest (omega (arith, bounds));
      passes = token_steps-take c (n - 1) (n - 1) rest (omega arith) ∙ fewer;
      passed = token_refusal-take header before (n - 1) rest (omega arith) ∙ fewer;
    }

-- If the steps of the token at the beginning of `rest` refuse, then the token is refused with a
-- least number of bytes.
pub next_refused : (header : List ℕ) (before : List (List ℕ)) (rest : List ℕ) (r : ReadRefusal)
    → first_refusal (length rest) (token_steps (context header before) rest) ≡ Some r → RefusedNext header before rest r
next_refused header before rest r h = refused_from header before rest r (least_refusal (length rest) (token_steps (context header before) rest) r h)

-- The token at the beginning of `rest` is complete and passes.
pub record PassesNext (header : List ℕ) (before : List (List ℕ)) (rest : List ℕ) : Type 0 where
  pub raw : IsRaw (take (raw_length rest) rest)
  pub passes : token_refusal header before (take (raw_length rest) rest) ≡ None
  pub measure : raw_measure (take (raw_length rest) rest) ≡ raw_measure rest

-- If the bytes are not refused and contain the whole next token, then the token passes.
pub next_passes : (header : List ℕ) (before : List (List ℕ)) (rest : List ℕ)
    → first_refusal (length rest) (token_steps (context header before) rest) ≡ None → raw_length rest ≤ length rest → PassesNext header before rest
next_passes header before rest h l = record {
  raw = IsRaw-take rest l;
  passes =
      token_refusal-take header before (raw_length rest) rest l
      ∙ first_refusal-fewer (raw_length rest) (length rest) (token_steps (context header before) rest) l h;
  measure = raw_measure-take (raw_length rest) rest (omega arith);
}

-- If the next token is refused, then all bytes up to the byte that decides the refusal are refused.
pub next_is_refused : (limit : ℕ) (header : List ℕ) (tokens : List (List ℕ)) (rest : List ℕ) (r : ReadRefusal)
    → HeaderPasses limit header → TokensPass header [] tokens → IsOpen tokens → (h : RefusedNext header tokens rest r)
    → IsRefused limit (header ++ (concat tokens ++ take h.count rest)) r
next_is_refused limit header tokens rest r hp tp is_open h =
    let part = take (h.count - 1) rest in
    let last = slice_index rest (h.count - 1) in
    let e : take h.count rest ≡ part ++ last ∷ [] = h.split in
    inr (record {
      prefix = header ++ (concat tokens ++ part);
      last = last;
      header = header;
      tokens = tokens;
      part = part;
      bytes_are =
          ap (λ xs. header ++ (concat tokens ++ xs)) e
          ∙ (ap (λ xs. header ++ xs) (sym (append_assoc (concat tokens) part (last ∷ [])))
          ∙ sym (append_assoc header (concat tokens ++ part) (last ∷ [])));
      in_tokens = record {
        bytes_are = refl;
        header_passes = hp;
        tokens_pass = tp;
        open_before = is_open;
        part = h.part;
        passes = h.passed;
      };
      refused = ap (token_refusal header tokens) (sym e) ∙ h.refused;
    })

-- A header, `middle` and the first `n` bytes of `rest` are a prefix of the header, `middle` and
-- `rest`.
pub take_after : (header middle rest : List ℕ) (n : ℕ) → take (length header + (length middle + n)) (header ++ (middle ++ rest)) ≡ header ++ (middle ++ take n rest)
take_after header middle rest n =
    take-append-add header (middle ++ rest) (length middle + n) ∙ ap (λ xs. header ++ xs) (take-append-add middle rest n)

-- ---- a header at the beginning

-- If bytes are fewer than a header has, then the bytes are a proper prefix of a header.
pub header_part-take : (n : ℕ) (bytes : List ℕ) → n < header_length bytes → length (take n bytes) < header_length (take n bytes)
header_part-take n bytes l =
    elim (cases_lt n 4) [
      | inl u ↦ omega (arith, length-take n bytes, header_length-from (take n bytes))
      | inr g ↦ omega (arith, length-take n bytes, header_length-take n bytes g)
    ]

-- The header at the beginning of the bytes is refused. The field `count` is the least number of
-- bytes that are refused.
pub record RefusedHeader (limit : ℕ) (bytes : List ℕ) (refusal : ReadRefusal) : Type 0 where
  pub count : ℕ
  pub least : 4 ≤ count
  pub most : count ≤ header_length bytes
  pub within : count ≤ length bytes
  pub split : take count bytes ≡ take (count - 1) bytes ++ slice_index bytes (count - 1) ∷ []
  pub refused : header_refusal limit (take count bytes) ≡ Some refusal
  pub in_header : InHeader limit (take (count - 1) bytes)

header_refused_from : (limit : ℕ) (bytes : List ℕ) (r : ReadRefusal) → LeastRefusal (length bytes) (header_steps limit bytes) r → RefusedHeader limit bytes r
header_refused_from limit bytes r h =
    let n = h.least in
    let bounds : (4 ≤ n) × (n ≤ header_length bytes) =
    least_refusal-within 4 (header_length bytes) (length bytes) (header_steps limit bytes) r (header_steps-within limit bytes) h in
    let within : n ≤ length bytes = h.within in
    record {
      count = n;
      least = bounds.0;
      most = bounds.1;
      within = within;
      split = take-last n bytes (omega arith) within;
      refused = header_refusal-take limit n bytes within ∙ h.refuses;
      in_header = record {
        part = header_part-take (n - 1) bytes (omega arith);
        passes = header_refusal-take limit (n - 1) bytes (omega arith) ∙ h.before (n - 1) (omega arith);
      };
    }

-- If the steps of the header at the beginning of bytes refuse, then the header is refused with a
-- least number of bytes.
pub header_refused : (limit : ℕ) (bytes : List ℕ) (r : ReadRefusal) → first_refusal (length bytes) (header_steps limit bytes) ≡ Some r → RefusedHeader limit bytes r
header_refused limit bytes r h = header_refused_from limit bytes r (least_refusal (length bytes) (header_steps limit bytes) r h)

-- If the header is refused, then all bytes up to the byte that decides the refusal are refused.
pub header_is_refused : (limit : ℕ) (bytes : List ℕ) (r : ReadRefusal) → (h : RefusedHeader limit bytes r) → IsRefused limit (take h.count bytes) r
header_is_refused limit bytes r h = inl (record {
  prefix = take (h.count - 1) bytes;
  last = slice_index bytes (h.count - 1);
  bytes_are = h.split;
  in_header = h.in_header;
  refused = h.refused;
})

-- If the bytes are not refused and contain the whole header, then the header passes.
pub header_passes : (limit : ℕ) (bytes : List ℕ) → first_refusal (length bytes) (header_steps limit bytes) ≡ None → header_length bytes ≤ length bytes
    → HeaderPasses limit (take (header_length bytes) bytes)
header_passes limit bytes h l =
    let n = header_length bytes in
    let four : 4 ≤ n = omega (arith, header_length-from bytes) in
    record {
      raw = length-take-le n bytes l ∙ sym (header_length-take n bytes four);
      passes = header_refusal-take limit n bytes l ∙ first_refusal-fewer n (length bytes) (header_steps limit bytes) l h;
    }

-- If the bytes are not refused and are shorter than a header, then the bytes are incomplete.
pub header_goes_on : (limit : ℕ) (bytes : List ℕ) → first_refusal (length bytes) (header_steps limit bytes) ≡ None → length bytes < header_length bytes → InHeader limit bytes
header_goes_on limit bytes h l = record { part = l; passes = h }
