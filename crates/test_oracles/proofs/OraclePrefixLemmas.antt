-- The shortest refused prefix (`IsDecided`), tokens in order, and their lengths.
use Rattle.std.proofs.Common.{◌≡◌, ℕ, ◌+◌, ◌-◌, ◌<◌, ◌≤◌, List, [], ◌∷◌, ◌++◌, length, get_or, take, drop, map, Some, None, inl, inr, sym, ◌∙◌, ap, subst, arith, length-append, length-take-le, length-drop}
use Rattle.std.proofs.lemmas.List.{take_more, take-append-drop}
use Rattle.std.proofs.lemmas.Bool.{cases_lt}
use Rattle.std.specs.List.{concat}
use Rattle.base_data.specs.declared.model.refusal.ReadRefusal.{ReadRefusal}
use Rattle.base_data.specs.model.Bytes.{AreBytes}
use Rattle.marshal_spec.specs.format.Words.{pending}
use Rattle.marshal_spec.specs.format.Raw.{raw_length, raw_measure}
use Rattle.marshal_spec.specs.format.Step.{Step, first_refusal, header_steps, token_steps}
use Rattle.marshal_spec.specs.format.Prefix.{with_next, context, header_refusal, token_refusal, IsOpen}
use Rattle.marshal_spec.specs.format.Judgement.{refused, Judges}
use Rattle.marshal_spec.proofs.format.FormatReadingLemmas.{concat-append, concat-push}
use Rattle.marshal_spec.proofs.format.FormatStepLemmas.{first_refusal-more, first_refusal-fewer}
use Rattle.marshal_spec.proofs.format.FormatNextLemmas.{RefusedNext, RefusedHeader, token_refusal-take, header_refusal-take, next_refused, next_passes, header_refused, header_is_refused}
use Rattle.marshal_spec.proofs.format.FormatStandLemmas.{Stands, BeginsValue, after_next, Stands-refused, Stands-next, Stands-value}
use Rattle.test_oracles.specs.declared.prefix.Decided.{Decided}
use Rattle.test_oracles.specs.Refusal.{refusal_of}
use Rattle.test_oracles.specs.Prefix.{IsDecided}

-- ---- the shortest prefix

-- If `n` and `m` are lengths of a shortest refused prefix, then `n` equals `m`.
same_count : (steps : List Step) (n m : ℕ) (r : ReadRefusal) → first_refusal n steps ≡ Some r → ((k : ℕ) → k < n → first_refusal k steps ≡ None)
    → first_refusal m steps ≡ Some r → first_refusal (m - 1) steps ≡ None → n ≡ m
same_count steps n m r at_n below_n at_m below_m =
    elim (cases_lt n m) [
      | inl u ↦ let e : first_refusal n steps ≡ None = first_refusal-fewer n (m - 1) steps (omega arith) below_m in absurd (cc)
      | inr g ↦ elim (cases_lt m n) [
        | inl v ↦ let e : first_refusal m steps ≡ None = below_n m v in absurd (cc)
        | inr h ↦ omega arith
      ]
    ]

-- If a prefix of a header is the shortest refused prefix, then the bytes are refused by that
-- prefix.
pub header_decided : (limit : ℕ) (bytes : List ℕ) (d : Decided) → IsDecided (header_refusal limit) bytes d → Judges limit bytes (refused d.count (refusal_of d.refusal))
header_decided limit bytes d h =
    let r = refusal_of d.refusal in
    let steps = header_steps limit bytes in
    let at_n : first_refusal d.count steps ≡ Some r = sym (header_refusal-take limit d.count bytes h.within) ∙ h.refused in
    let below_n : (k : ℕ) → k < d.count → first_refusal k steps ≡ None =
    λ k l. sym (header_refusal-take limit k bytes (omega (arith, h.within))) ∙ h.fewer k l in
    let x : RefusedHeader limit bytes r = header_refused limit bytes r (first_refusal-more d.count (length bytes) steps r h.within at_n) in
    let at_m : first_refusal x.count steps ≡ Some r = sym (header_refusal-take limit x.count bytes x.within) ∙ x.refused in
    let below_m : first_refusal (x.count - 1) steps ≡ None =
    sym (header_refusal-take limit (x.count - 1) bytes (omega (arith, x.within))) ∙ x.in_header.passes in
    let same : x.count ≡ d.count = sym (same_count steps d.count x.count r at_n below_n at_m below_m) in
    subst (λ n. Judges limit bytes (refused n r)) same (x.within, header_is_refused limit bytes r x)

-- ---- tokens

module _ (limit : ℕ) (bytes header : List ℕ) (tokens : List (List ℕ)) (rest : List ℕ) (here : Stands limit bytes header tokens rest) where
  pub length_is : length bytes ≡ length header + (length (concat tokens) + length rest)
  length_is = omega (arith, ap length here.bytes_are, length-append header (concat tokens ++ rest), length-append (concat tokens) rest)

  -- If a prefix of a token is the shortest refused prefix, then the bytes are refused by the end of
  -- that prefix.
  pub token_decided : (d : Decided) → IsDecided (token_refusal header tokens) rest d
      → Judges limit bytes (refused (length bytes - length rest + d.count) (refusal_of d.refusal))
  token_decided d h =
      let r = refusal_of d.refusal in
      let steps = token_steps (context header tokens) rest in
      let at_n : first_refusal d.count steps ≡ Some r = sym (token_refusal-take header tokens d.count rest h.within) ∙ h.refused in
      let below_n : (k : ℕ) → k < d.count → first_refusal k steps ≡ None =
      λ k l. sym (token_refusal-take header tokens k rest (omega (arith, h.within))) ∙ h.fewer k l in
      let x : RefusedNext header tokens rest r = next_refused header tokens rest r (first_refusal-more d.count (length rest) steps r h.within at_n) in
      let at_m : first_refusal x.count steps ≡ Some r = sym (token_refusal-take header tokens x.count rest x.within) ∙ x.refused in
      let below_m : first_refusal (x.count - 1) steps ≡ None =
      sym (token_refusal-take header tokens (x.count - 1) rest (omega (arith, x.within))) ∙ x.passed in
      let same : d.count ≡ x.count = same_count steps d.count x.count r at_n below_n at_m below_m in
      let n_is : length header + (length (concat tokens) + x.count) ≡ length bytes - length rest + d.count = omega (arith, length_is) in
      subst (λ n. Judges limit bytes (refused n r)) n_is (Stands-refused limit bytes header tokens rest r here x)

  -- The next token is complete, and is not refused.
  module _ (none : token_refusal header tokens rest ≡ None) (whole : raw_length rest ≤ length rest) where
    pub next_length : length header + length (concat (with_next tokens rest)) ≡ length bytes - length (after_next rest)
    next_length =
        let e : length (concat (with_next tokens rest)) ≡ length (concat tokens) + raw_length rest =
        ap length (concat-push tokens (take (raw_length rest) rest)) ∙ length-append (concat tokens) (take (raw_length rest) rest)
        ∙ ap (λ n. length (concat tokens) + n) (length-take-le (raw_length rest) rest whole) in
        omega (arith, length_is, length-drop (raw_length rest) rest)

    pub next_stands : IsOpen (with_next tokens rest) → Stands limit bytes header (with_next tokens rest) (after_next rest)
    next_stands is_open = Stands-next limit bytes header tokens rest here (next_passes header tokens rest none whole) is_open

    pub next_ends : AreBytes bytes → (IsOpen (with_next tokens rest) → ⊥)
        → BeginsValue limit bytes (length bytes - length (after_next rest)) (with_next tokens rest)
    next_ends a closed =
        let zero : pending (map raw_measure (with_next tokens rest)) ≡ 0 =
        elim (cases_lt 0 (pending (map raw_measure (with_next tokens rest)))) [ inl u ↦ absurd (closed u) | inr g ↦ omega arith ] in
        subst (λ n. BeginsValue limit bytes n (with_next tokens rest)) next_length
        (Stands-value limit bytes header tokens rest a here (next_passes header tokens rest none whole) zero)

-- ---- the total length of the first tokens

-- The length of the first `i + 1` chunks is the length of the first `i` chunks and of one more
-- chunk.
pub length_more : (chunks : List (List ℕ)) (i : ℕ) (chunk : List ℕ) → i < length chunks → chunk ≡ get_or chunks i chunk
    → length (concat (take (i + 1) chunks)) ≡ length (concat (take i chunks)) + length chunk
length_more chunks i chunk l e =
    let one : take (i + 1) chunks ≡ take i chunks ++ chunk ∷ [] = take_more chunks i chunk l ∙ ap (λ p. take i chunks ++ p ∷ []) (sym e) in
    ap (λ ps. length (concat ps)) one ∙ ap length (concat-push (take i chunks) chunk) ∙ length-append (concat (take i chunks)) chunk

-- The length of the first `i` chunks is at most the length of all chunks.
pub length_within : (chunks : List (List ℕ)) (i : ℕ) → length (concat (take i chunks)) ≤ length (concat chunks)
length_within chunks i =
    let e : length (concat chunks) ≡ length (concat (take i chunks)) + length (concat (drop i chunks)) =
    ap (λ ps. length (concat ps)) (sym (take-append-drop i chunks))
    ∙ ap length (concat-append (take i chunks) (drop i chunks))
    ∙ length-append (concat (take i chunks)) (concat (drop i chunks)) in
    omega arith
