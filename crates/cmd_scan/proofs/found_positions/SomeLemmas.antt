-- Sequences of parts, and the existence of stretches.
use Rattle.std.proofs.Common.{◌⊎◌, zero, suc, inl, inr, length-drop, take-append-drop, ◌≡◌, ℕ, ◌+◌, ◌<◌, ◌≤◌, drop, List, [], ◌∷◌, ◌++◌, length, take, refl, sym, ap, ◌∙◌, subst, append_assoc, append-nil, length-append, take_all, arith}
use Rattle.std.proofs.lemmas.List.{length-take-le, take-append-le}
use Rattle.base_data.specs.model.Bytes.{AreBytes}
use Rattle.marshal_spec.specs.format.Prefix.{IsPrefix, IsRefused}
use Rattle.marshal_spec.specs.format.Judgement.{Judgement, prefix, value, refused, Judges}
use Rattle.marshal_spec.specs.format.Encoded.{EncodedUnder}
use Rattle.marshal_spec.specs.format.Tree.{Tree}
use Rattle.marshal_spec.proofs.format.JudgementLaws.{value_at_once, value_or_refused, prefix_or_value}
use Rattle.marshal_spec.proofs.format.OneJudgement.{prefix_or_refused}
use Rattle.marshal_spec.proofs.format.EncodeValues.{AreBytes-prefix, AreBytes-rest}
use Rattle.marshal_spec.proofs.format.FormatStandLemmas.{Judges-some}
use Rattle.cmd_scan.specs.found_positions.InputParts.{InputPart, passed, sighted, part_bytes, bytes_of, BeginNoValue, AreRefused, AreParts, IsStretch}
use Rattle.cmd_scan.proofs.found_positions.FoundPositionOnceLemmas.{nothing_prefix}
use Rattle.marshal_spec.proofs.format.JudgementLaws.{encoded_some}
use Rattle.cmd_scan.proofs.found_positions.FoundPositionPrefixLemmas.{refused_no_value, refused_after, none_before}

pub bytes_of-append : (xs ys : List InputPart) → bytes_of (xs ++ ys) ≡ bytes_of xs ++ bytes_of ys
bytes_of-append [] ys = refl
bytes_of-append (x ∷ xs) ys =
    ap (λ b. part_bytes x ++ b) (bytes_of-append xs ys)
    ∙ sym (append_assoc (part_bytes x) (bytes_of xs) (bytes_of ys))

module _ (limit : ℕ) where
  pub parts-append :
      (None : List ℕ → Type 0) (xs ys : List InputPart) (rest : List ℕ)
      → AreParts limit None xs (bytes_of ys ++ rest) → AreParts limit None ys rest
      → AreParts limit None (xs ++ ys) rest
  parts-append None [] ys rest are more = more
  parts-append None (passed byte ∷ xs) ys rest are more = (
    subst (λ b. None (byte ∷ b))
        (sym (append_assoc (bytes_of xs) (bytes_of ys) rest)
        ∙ ap (λ b. b ++ rest) (sym (bytes_of-append xs ys))) are.0,
    parts-append None xs ys rest are.1 more,
  )
  parts-append None (sighted bytes tree ∷ xs) ys rest are more =
      (are.0, parts-append None xs ys rest are.1 more)

  -- If parts are valid for a condition on skipped bytes, then they are valid for each weaker
  -- condition.
  pub parts-map :
      (None Other : List ℕ → Type 0) → ((bytes : List ℕ) → None bytes → Other bytes)
      → (parts : List InputPart) (rest : List ℕ) → AreParts limit None parts rest
      → AreParts limit Other parts rest
  parts-map None Other f [] rest are = tt
  parts-map None Other f (passed byte ∷ parts) rest are =
      (f (byte ∷ (bytes_of parts ++ rest)) are.0, parts-map None Other f parts rest are.1)
  parts-map None Other f (sighted bytes tree ∷ parts) rest are =
      (are.0, parts-map None Other f parts rest are.1)

  -- If parts are determined by refusals, then no value begins at their skipped bytes.
  pub undecided :
      (parts : List InputPart) (rest : List ℕ) → AreParts limit (AreRefused limit) parts rest
      → AreParts limit (BeginNoValue limit) parts rest
  undecided = parts-map (AreRefused limit) (BeginNoValue limit) (refused_no_value limit)

  -- If parts are determined, then they are determined with more bytes after them.
  pub parts-after :
      (parts : List InputPart) (rest later : List ℕ) → AreParts limit (AreRefused limit) parts rest
      → AreParts limit (AreRefused limit) parts (rest ++ later)
  parts-after [] rest later are = tt
  parts-after (passed byte ∷ parts) rest later are = (
    subst (λ b. AreRefused limit (byte ∷ b)) (append_assoc (bytes_of parts) rest later)
        (refused_after limit (byte ∷ (bytes_of parts ++ rest)) later are.0),
    parts-after parts rest later are.1,
  )
  parts-after (sighted bytes tree ∷ parts) rest later are =
      (are.0, parts-after parts rest later are.1)

  -- If parts are valid before some bytes, then they are valid at the end of the input.
  pub parts-before :
      (parts : List InputPart) (rest : List ℕ) → AreParts limit (BeginNoValue limit) parts rest
      → AreParts limit (BeginNoValue limit) parts []
  parts-before [] rest are = tt
  parts-before (passed byte ∷ parts) rest are = (
    subst (λ b. BeginNoValue limit (byte ∷ b)) (sym (append-nil (bytes_of parts)))
        (none_before limit (byte ∷ bytes_of parts) rest are.0),
    parts-before parts rest are.1,
  )
  parts-before (sighted bytes tree ∷ parts) rest are = (are.0, parts-before parts rest are.1)

  -- ---- stretches

  -- The bytes are determined parts followed by a prefix of a value.
  pub record IsSettled (bytes : List ℕ) : Type 0 where
    pub parts : List InputPart
    pub pending : List ℕ
    pub bytes_are : bytes ≡ bytes_of parts ++ pending
    pub are : AreParts limit (AreRefused limit) parts pending
    pub is_prefix : IsPrefix limit pending

  -- Suppose bytes are no prefix of a value, but are one without their last byte. Then the
  -- determined parts and the pending bytes are a stretch.
  pub stretch_of :
      (bytes : List ℕ) → (IsPrefix limit bytes → ⊥)
      → (prefix : List ℕ) × (last : ℕ) × (bytes ≡ prefix ++ last ∷ []) × IsPrefix limit prefix
      → (s : IsSettled bytes) → IsStretch limit s.parts s.pending
  stretch_of bytes none split s = record {
    none = λ f. none (subst (IsPrefix limit) (sym s.bytes_are) f);
    prefix = split.0;
    last = split.1;
    bytes_are = sym s.bytes_are ∙ split.2;
    before = split.3;
    are = s.are;
    is_prefix = s.is_prefix;
  }

  -- A value is a stretch: without its last byte it is a value prefix.
  last_of :
      (bytes : List ℕ) → 0 < length bytes
      → (prefix : List ℕ) × (last : ℕ) × (bytes ≡ prefix ++ last ∷ [])
  last_of [] some = absurd (omega (arith, some))
  last_of (b ∷ []) some = ([], b, refl)
  last_of (b ∷ c ∷ bytes) some =
      let l = last_of (c ∷ bytes) (omega arith) in (b ∷ l.0, l.1, ap (λ x. b ∷ x) l.2)

  pub value_last :
      (bytes : List ℕ) (tree : Tree) → AreBytes bytes → EncodedUnder limit bytes tree
      → (prefix : List ℕ) × (last : ℕ) × (bytes ≡ prefix ++ last ∷ []) × IsPrefix limit prefix
  value_last bytes tree are s =
      let l = last_of bytes (encoded_some limit bytes tree s) in
      let j = Judges-some limit l.0 (AreBytes-prefix l.0 (l.1 ∷ []) (subst AreBytes l.2 are)) in
      (l.0, l.1, l.2, by l.0 l.1 l.2 j.0 j.1)
    where
      whole : EncodedUnder limit (take (length bytes) bytes) tree
      whole = subst (λ b. EncodedUnder limit b tree) (sym (take_all (length bytes) bytes (omega arith))) s

      by : (first : List ℕ) (last : ℕ) → bytes ≡ first ++ last ∷ [] → (judgement : Judgement)
          → Judges limit first judgement → IsPrefix limit first
      by first last e prefix holds = holds
      by first last e (value n other) (fits, encoded) =
          let size : length bytes ≡ length first + 1 = ap length e ∙ length-append first (last ∷ []) in
          let same : take n bytes ≡ take n first =
          ap (take n) e ∙ take-append-le n first (last ∷ []) fits in
          let once = value_at_once limit bytes (length bytes) n tree other (omega arith)
          (omega (arith, size, fits)) whole
          (subst (λ b. EncodedUnder limit b other) (sym same) encoded) in
          absurd (omega (arith, once.0, size, fits))
      by first last e (refused n refusal) (fits, is) =
          let same : take n bytes ≡ take n first =
          ap (take n) e ∙ take-append-le n first (last ∷ []) fits in
          absurd
          (value_or_refused limit bytes (length bytes) n tree refusal whole
          (subst (λ b. IsRefused limit b refusal) (sym same) is))

  -- ---- existence of determined parts

  -- The parts of some bytes exist, by induction on the number of bytes.
  first_settled :
      (b : ℕ) (bytes : List ℕ) → AreBytes (b ∷ bytes) → (judgement : Judgement)
      → Judges limit (b ∷ bytes) judgement
      → ((more : List ℕ) → AreBytes more → length more ≤ length bytes → IsSettled more)
      → IsSettled (b ∷ bytes)
  first_settled b bytes bytes_are prefix holds settled = record {
    parts = [];
    pending = b ∷ bytes;
    bytes_are = refl;
    are = tt;
    is_prefix = holds;
  }
  first_settled b bytes bytes_are (refused k refusal) (within, is) settled =
      let s = settled bytes (AreBytes-rest (b ∷ []) bytes bytes_are) (omega arith) in record {
        parts = passed b ∷ s.parts;
        pending = s.pending;
        bytes_are = ap (λ x. b ∷ x) s.bytes_are;
        are = (
          subst (λ x. AreRefused limit (b ∷ x)) s.bytes_are (k, refusal, within, is),
          s.are,
        );
        is_prefix = s.is_prefix;
      }
  first_settled b bytes bytes_are (value k tree) (within, encoded) settled =
      let all = b ∷ bytes in
      let some = encoded_some limit (take k all) tree encoded in
      let split : take k all ++ drop k all ≡ all = take-append-drop k all in
      let size : length (take k all) ≡ k = length-take-le k all within in
      let s = settled (drop k all)
      (AreBytes-rest (take k all) (drop k all) (subst AreBytes (sym split) bytes_are))
      (omega (arith, some, size, length-drop k all)) in record {
        parts = sighted (take k all) tree ∷ s.parts;
        pending = s.pending;
        bytes_are =
            sym split
            ∙ (ap (λ x. take k all ++ x) s.bytes_are
            ∙ sym (append_assoc (take k all) (bytes_of s.parts) s.pending));
        are = (encoded, s.are);
        is_prefix = s.is_prefix;
      }

  pub all_settled : (n : ℕ) (bytes : List ℕ) → AreBytes bytes → length bytes ≤ n → IsSettled bytes
  all_settled n [] bytes_are fits = record {
    parts = [];
    pending = [];
    bytes_are = refl;
    are = tt;
    is_prefix = nothing_prefix limit;
  }
  all_settled zero (b ∷ bytes) bytes_are fits = absurd (omega (arith, fits))
  all_settled (suc n) (b ∷ bytes) bytes_are fits =
      let j = Judges-some limit (b ∷ bytes) bytes_are in
      first_settled b bytes bytes_are j.0 j.1
      (λ more more_are shorter. all_settled n more more_are (omega (arith, fits, shorter)))

  -- Bytes are a value prefix or not.
  pub prefix_or :
      (bytes : List ℕ) → AreBytes bytes → IsPrefix limit bytes ⊎ (IsPrefix limit bytes → ⊥)
  prefix_or bytes bytes_are =
      let j = Judges-some limit bytes bytes_are in by j.0 j.1
    where
      by : (judgement : Judgement) → Judges limit bytes judgement
          → IsPrefix limit bytes ⊎ (IsPrefix limit bytes → ⊥)
      by prefix holds = inl holds
      by (value k tree) (within, encoded) =
          inr (λ f. prefix_or_value limit bytes k tree f encoded)
      by (refused k refusal) (within, is) =
          inr (λ f. prefix_or_refused limit bytes k refusal f is)
