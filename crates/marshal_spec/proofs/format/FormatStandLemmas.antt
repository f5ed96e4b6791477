-- The judgement on bytes whose header and first tokens pass, if a value is still expected. The
-- judgement depends on the remaining bytes.
use Rattle.std.proofs.Common.{◌≡◌, ℕ, zero, suc, ◌+◌, ◌<◌, ◌≤◌, List, [], ◌++◌, length, take, drop, map, None, inl, inr, sym, ◌∙◌, ap, subst, arith, length-append, append_assoc, take_at}
use Rattle.std.proofs.lemmas.Bool.{cases_lt}
use Rattle.std.proofs.lemmas.List.{take-append-drop, length-drop}
use Rattle.std.specs.List.{AllZip, concat}
use Rattle.base_data.proofs.model.Options.{none_or_some}
use Rattle.base_data.specs.declared.model.refusal.ReadRefusal.{ReadRefusal}
use Rattle.base_data.specs.model.Bytes.{AreBytes}
use Rattle.marshal_spec.specs.format.Raw.{raw_length, raw_measure}
use Rattle.marshal_spec.specs.format.Words.{pending}
use Rattle.marshal_spec.specs.format.Header.{header_length}
use Rattle.marshal_spec.specs.format.Step.{first_refusal, header_steps, token_steps}
use Rattle.marshal_spec.specs.format.Token.{Encodes}
use Rattle.marshal_spec.specs.format.Tree.{Tree, tokens}
use Rattle.marshal_spec.specs.format.Prefix.{context, with_next, IsOpen, TokensPass, HeaderPasses, IsRefused}
use Rattle.marshal_spec.specs.format.Judgement.{Judgement, prefix, value, refused, Judges}
use Rattle.marshal_spec.proofs.format.RawLemmas.{one-le-raw_length}
use Rattle.marshal_spec.proofs.format.FormatReadingLemmas.{concat-push, TokensPass-push}
use Rattle.marshal_spec.proofs.format.FormatNextLemmas.{RefusedNext, PassesNext, RefusedHeader, next_refused, next_passes, next_is_refused, take_after, header_refused, header_is_refused, header_passes, header_goes_on}
use Rattle.marshal_spec.proofs.format.EncodeValues.{AreBytes-prefix}
use Rattle.marshal_spec.proofs.format.EncodeTrees.{EncodedBy, EncodedBy-passes}

-- The bytes are a header and tokens that pass, and the remaining bytes `rest`. At least one value
-- is expected.
pub record Stands (limit : ℕ) (bytes header : List ℕ) (tokens : List (List ℕ)) (rest : List ℕ) : Type 0 where
  pub bytes_are : bytes ≡ header ++ (concat tokens ++ rest)
  pub header_passes : HeaderPasses limit header
  pub tokens_pass : TokensPass header [] tokens
  pub is_open : IsOpen tokens

-- The first `n` bytes encode a value with the chunks `chunks`.
pub record BeginsValue (limit : ℕ) (bytes : List ℕ) (n : ℕ) (chunks : List (List ℕ)) : Type 0 where
  pub tree : Tree
  pub judges : Judges limit bytes (value n tree)
  pub encodes : AllZip Encodes (tokens tree) chunks

-- ---- at a token

abbrev pub after_next : List ℕ → List ℕ
after_next rest = drop (raw_length rest) rest

-- If the remaining bytes are a proper prefix of a token and are not refused, then the bytes are
-- incomplete.
pub Stands-prefix : (limit : ℕ) (bytes header : List ℕ) (tokens : List (List ℕ)) (rest : List ℕ) → Stands limit bytes header tokens rest
    → first_refusal (length rest) (token_steps (context header tokens) rest) ≡ None → length rest < raw_length rest → Judges limit bytes prefix
Stands-prefix limit bytes header tokens rest s e part = inr (
  header,
  tokens,
  rest,
  record {
    bytes_are = s.bytes_are;
    header_passes = s.header_passes;
    tokens_pass = s.tokens_pass;
    open_before = s.is_open;
    part = part;
    passes = e;
  },
)

-- If the next token is refused, then the bytes are refused.
pub Stands-refused : (limit : ℕ) (bytes header : List ℕ) (tokens : List (List ℕ)) (rest : List ℕ) (r : ReadRefusal) → Stands limit bytes header tokens rest
    → (h : RefusedNext header tokens rest r) → Judges limit bytes (refused (length header + (length (concat tokens) + h.count)) r)
Stands-refused limit bytes header tokens rest r s h =
    let n = length header + (length (concat tokens) + h.count) in
    let l : n ≤ length bytes = omega (arith, ap length s.bytes_are, length-append header (concat tokens ++ rest), length-append (concat tokens) rest, h.within) in
    let e : header ++ (concat tokens ++ take h.count rest) ≡ take n bytes =
    sym (ap (take n) s.bytes_are ∙ take_after header (concat tokens) rest h.count) in
    (l, subst (λ xs. IsRefused limit xs r) e (next_is_refused limit header tokens rest r s.header_passes s.tokens_pass s.is_open h))

next_bytes : (header : List ℕ) (tokens : List (List ℕ)) (rest : List ℕ) → header ++ (concat tokens ++ rest) ≡ header ++ (concat (with_next tokens rest) ++ after_next rest)
next_bytes header tokens rest =
    let t = take (raw_length rest) rest in
    let u = drop (raw_length rest) rest in
    ap (λ xs. header ++ xs)
    (ap (λ xs. concat tokens ++ xs) (sym (take-append-drop (raw_length rest) rest))
    ∙ (sym (append_assoc (concat tokens) t u) ∙ ap (λ xs. xs ++ u) (sym (concat-push tokens t))))

next_tokens : (limit : ℕ) (bytes header : List ℕ) (tokens : List (List ℕ)) (rest : List ℕ) → Stands limit bytes header tokens rest → PassesNext header tokens rest
    → TokensPass header [] (with_next tokens rest)
next_tokens limit bytes header tokens rest s p =
    TokensPass-push header [] tokens (take (raw_length rest) rest) s.tokens_pass (record { open_before = s.is_open; raw = p.raw; passes = p.passes })

-- If the next token passes and a value is expected after the token, then the state `Stands` holds
-- after the token.
pub Stands-next : (limit : ℕ) (bytes header : List ℕ) (tokens : List (List ℕ)) (rest : List ℕ) → Stands limit bytes header tokens rest → PassesNext header tokens rest
    → IsOpen (with_next tokens rest) → Stands limit bytes header (with_next tokens rest) (after_next rest)
Stands-next limit bytes header tokens rest s p is_open = record {
  bytes_are = s.bytes_are ∙ next_bytes header tokens rest;
  header_passes = s.header_passes;
  tokens_pass = next_tokens limit bytes header tokens rest s p;
  is_open = is_open;
}

pub AreBytes-take : (n : ℕ) (bytes : List ℕ) → AreBytes bytes → AreBytes (take n bytes)
AreBytes-take n bytes a = AreBytes-prefix (take n bytes) (drop n bytes) (subst (λ xs. AreBytes xs) (sym (take-append-drop n bytes)) a)

-- If the next token passes and ends the value, then the bytes begin with a value.
pub Stands-value : (limit : ℕ) (bytes header : List ℕ) (tokens : List (List ℕ)) (rest : List ℕ) → AreBytes bytes → Stands limit bytes header tokens rest
    → PassesNext header tokens rest → pending (map raw_measure (with_next tokens rest)) ≡ 0
    → BeginsValue limit bytes (length header + length (concat (with_next tokens rest))) (with_next tokens rest)
Stands-value limit bytes header tokens rest a s p none =
    let whole = with_next tokens rest in
    let u = after_next rest in
    let n = length header + length (concat whole) in
    let e : bytes ≡ (header ++ concat whole) ++ u = s.bytes_are ∙ (next_bytes header tokens rest ∙ sym (append_assoc header (concat whole) u)) in
    let prefix_is : take n bytes ≡ header ++ concat whole = ap (take n) e ∙ take_at (header ++ concat whole) u n (length-append header (concat whole)) in
    let v : EncodedBy limit (take n bytes) header whole =
    EncodedBy-passes limit (take n bytes) header whole (AreBytes-take n bytes a) prefix_is s.header_passes (next_tokens limit bytes header tokens rest s p) none in
    record {
      tree = v.tree;
      judges = (omega (arith, ap length e, length-append (header ++ concat whole) u, length-append header (concat whole)), v.encoded);
      encodes = v.encodes;
    }

-- ---- at the header

-- If the header passes, then the state `Stands` holds after the header.
pub Stands-header : (limit : ℕ) (bytes : List ℕ) → first_refusal (length bytes) (header_steps limit bytes) ≡ None → header_length bytes ≤ length bytes
    → Stands limit bytes (take (header_length bytes) bytes) [] (drop (header_length bytes) bytes)
Stands-header limit bytes e l = record {
  bytes_are = sym (take-append-drop (header_length bytes) bytes);
  header_passes = header_passes limit bytes e l;
  tokens_pass = tt;
  is_open = omega arith;
}

-- ---- to the end

-- Bytes in the state `Stands` have a judgement, by recursion on the length of the remaining bytes.
judged : (fuel limit : ℕ) (bytes header : List ℕ) (tokens : List (List ℕ)) (rest : List ℕ) → AreBytes bytes → Stands limit bytes header tokens rest → length rest < fuel
    → (j : Judgement) × Judges limit bytes j
judged zero limit bytes header tokens rest a s l = absurd (omega arith)
judged (suc fuel) limit bytes header tokens rest a s l =
    elim (none_or_some (first_refusal (length rest) (token_steps (context header tokens) rest))) [
      | inr (r, e) ↦
          let h : RefusedNext header tokens rest r = next_refused header tokens rest r e in
          (refused (length header + (length (concat tokens) + h.count)) r, Stands-refused limit bytes header tokens rest r s h)
      | inl e ↦ elim (cases_lt (length rest) (raw_length rest)) [
        | inl part ↦ (prefix, Stands-prefix limit bytes header tokens rest s e part)
        | inr whole ↦
            let p : PassesNext header tokens rest = next_passes header tokens rest e whole in
            elim (cases_lt 0 (pending (map raw_measure (with_next tokens rest)))) [
              | inl is_open ↦
                  judged fuel limit bytes header (with_next tokens rest) (after_next rest) a (Stands-next limit bytes header tokens rest s p is_open)
                  (omega (arith, length-drop (raw_length rest) rest, one-le-raw_length rest))
              | inr none ↦
                  let v = Stands-value limit bytes header tokens rest a s p (omega arith) in
                  (value (length header + length (concat (with_next tokens rest))) v.tree, v.judges)
            ]
      ]
    ]

-- Each byte string has a judgement.
pub Judges-some : (limit : ℕ) (bytes : List ℕ) → AreBytes bytes → (j : Judgement) × Judges limit bytes j
Judges-some limit bytes a =
    elim (none_or_some (first_refusal (length bytes) (header_steps limit bytes))) [
      | inr (r, e) ↦
          let h : RefusedHeader limit bytes r = header_refused limit bytes r e in
          (refused h.count r, (h.within, header_is_refused limit bytes r h))
      | inl e ↦ elim (cases_lt (length bytes) (header_length bytes)) [
        | inl part ↦ (prefix, inl (header_goes_on limit bytes e part))
        | inr whole ↦
            judged (suc (length bytes)) limit bytes (take (header_length bytes) bytes) [] (drop (header_length bytes) bytes) a (Stands-header limit bytes e whole)
            (omega (arith, length-drop (header_length bytes) bytes))
      ]
    ]
