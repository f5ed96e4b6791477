-- Each input has exactly one list of positions, and the list covers all values.
use Rattle.std.proofs.Common.{◌≡◌, ℕ, zero, suc, ◌+◌, ◌≤◌, List, [], ◌∷◌, ◌++◌, length, take, drop, inl, inr, refl, sym, ap, ◌∙◌, subst, append_assoc, append-nil, length-append, length-drop, take-append-drop, take_at, drop_at, arith}
use Rattle.std.proofs.lemmas.Bool.{cases_lt}
use Rattle.std.proofs.lemmas.List.{length-take-le}
use Rattle.base_data.specs.model.Bytes.{AreBytes}
use Rattle.marshal_spec.specs.format.Judgement.{Judgement, prefix, value, refused, Judges}
use Rattle.marshal_spec.specs.format.Encoded.{EncodedUnder}
use Rattle.marshal_spec.specs.format.Tree.{Tree}
use Rattle.marshal_spec.proofs.format.EncodeValues.{AreBytes-rest}
use Rattle.marshal_spec.proofs.format.FormatStandLemmas.{Judges-some}
use Rattle.cmd_scan.specs.found_positions.Laws.{HasOneList, IsEncodedAt, AreInOrder, IsInside, ArePositionsOfAll}
use Rattle.cmd_scan.specs.found_positions.InputParts.{InputPart, passed, sighted, bytes_of, BeginNoValue, AreParts}
use Rattle.cmd_scan.specs.found_positions.ValuePositions.{ValuePosition, position_of, positions_of}
use Rattle.marshal_spec.proofs.format.JudgementLaws.{encoded_some}
use Rattle.cmd_scan.proofs.found_positions.FoundPositionPrefixLemmas.{prefix_no_value, refused_no_value}
use Rattle.cmd_scan.proofs.found_positions.FoundPositionOnceLemmas.{parts_once}

-- ---- existence of the list

module _ (limit : ℕ) where
  abbrev pub Has : List ℕ → Type 0
  Has bytes =
      (parts : List InputPart) × (bytes ≡ bytes_of parts) × AreParts limit (BeginNoValue limit) parts []

  -- If no value begins at a byte, then the byte is skipped before the parts of the bytes after it.
  pass : (b : ℕ) (bytes : List ℕ) → BeginNoValue limit (b ∷ bytes) → Has bytes → Has (b ∷ bytes)
  pass b bytes none (parts, is, are) = (
    passed b ∷ parts,
    ap (λ x. b ∷ x) is,
    (subst (λ x. BeginNoValue limit (b ∷ x)) (is ∙ sym (append-nil (bytes_of parts))) none, are),
  )

  -- The parts of some bytes exist if no more bytes follow, by induction on the number of bytes.
  first_part :
      (b : ℕ) (bytes : List ℕ) → AreBytes (b ∷ bytes) → (judgement : Judgement)
      → Judges limit (b ∷ bytes) judgement
      → ((more : List ℕ) → AreBytes more → length more ≤ length bytes → Has more) → Has (b ∷ bytes)
  first_part b bytes bytes_are prefix holds has =
      pass b bytes (prefix_no_value limit (b ∷ bytes) holds)
      (has bytes (AreBytes-rest (b ∷ []) bytes bytes_are) (omega arith))
  first_part b bytes bytes_are (refused k refusal) (within, is) has =
      pass b bytes (refused_no_value limit (b ∷ bytes) (k, refusal, within, is))
      (has bytes (AreBytes-rest (b ∷ []) bytes bytes_are) (omega arith))
  first_part b bytes bytes_are (value k tree) (within, encoded) has =
      let all = b ∷ bytes in
      let some = encoded_some limit (take k all) tree encoded in
      let split : take k all ++ drop k all ≡ all = take-append-drop k all in
      let size : length (take k all) ≡ k = length-take-le k all within in
      let more = has (drop k all)
      (AreBytes-rest (take k all) (drop k all) (subst AreBytes (sym split) bytes_are))
      (omega (arith, some, size, length-drop k all)) in (
        sighted (take k all) tree ∷ more.0,
        sym split ∙ ap (λ x. take k all ++ x) more.1,
        (encoded, more.2),
      )

  pub all_parts : (n : ℕ) (bytes : List ℕ) → AreBytes bytes → length bytes ≤ n → Has bytes
  all_parts n [] bytes_are fits = ([], refl, tt)
  all_parts zero (b ∷ bytes) bytes_are fits = absurd (omega (arith, fits))
  all_parts (suc n) (b ∷ bytes) bytes_are fits =
      let j = Judges-some limit (b ∷ bytes) bytes_are in
      first_part b bytes bytes_are j.0 j.1
      (λ more more_are shorter. all_parts n more more_are (omega (arith, fits, shorter)))

pub one_list_lemma : HasOneList
one_list_lemma limit input bytes_are =
    let h = all_parts limit (length input) input bytes_are (omega arith) in (
      positions_of 0 h.0,
      (h.0, h.1, h.2, refl),
      λ others o.
          o.3 ∙ ap (positions_of 0) (parts_once limit input o.0 h.0 o.1 h.1 o.2 h.2),
    )

-- ---- the positions cover all values

module _ (limit : ℕ) (input : List ℕ) where
  earlier :
      (from other : ℕ) (positions : List ValuePosition) → from ≤ other → AreInOrder limit input other positions
      → AreInOrder limit input from positions
  earlier from other [] less are = tt
  earlier from other (position ∷ positions) less (after, is, more) =
      (omega (arith, less, after), is, more)

  -- Each value that is encoded at or after the offset of the bytes `before` begins inside one of
  -- the positions.
  abbrev Covers : List ℕ → List ValuePosition → Type 0
  Covers before positions =
      (offset size : ℕ) (tree : Tree) → length before ≤ offset
      → IsEncodedAt limit input offset size tree → IsInside offset positions

  -- If a value is encoded at the offset after the bytes `before`, then the remaining bytes begin
  -- with a value.
  at_prefix :
      (before after : List ℕ) (offset size : ℕ) (tree : Tree) → input ≡ before ++ after
      → offset ≡ length before → IsEncodedAt limit input offset size tree
      → BeginNoValue limit after → ⊥
  at_prefix before after offset size tree e is (fits, encoded) none =
      let same : drop offset input ≡ after = ap (drop offset) e ∙ drop_at before after offset (sym is) in
      none (take size after) (drop size after) tree (sym (take-append-drop size after))
      (subst (λ b. EncodedUnder limit (take size b) tree) same encoded)

  in_order :
      (before : List ℕ) (parts : List InputPart) → input ≡ before ++ bytes_of parts
      → AreParts limit (BeginNoValue limit) parts []
      → AreInOrder limit input (length before) (positions_of (length before) parts)
  in_order before [] e are = tt
  in_order before (passed b ∷ parts) e are =
      let size : length (before ++ b ∷ []) ≡ length before + 1 = length-append before (b ∷ []) in
      earlier (length before) (length before + 1) (positions_of (length before + 1) parts) (omega arith)
      (subst (λ k. AreInOrder limit input k (positions_of k parts)) size
      (in_order (before ++ b ∷ []) parts
      (e ∙ sym (append_assoc before (b ∷ []) (bytes_of parts))) are.1))
  in_order before (sighted bytes tree ∷ parts) e are =
      let rest = bytes_of parts in
      let size : length (before ++ bytes) ≡ length before + length bytes =
      length-append before bytes in
      let at : drop (length before) input ≡ bytes ++ rest =
      ap (drop (length before)) e ∙ drop_at before (bytes ++ rest) (length before) refl in
      let same : take (length bytes) (drop (length before) input) ≡ bytes =
      ap (take (length bytes)) at ∙ take_at bytes rest (length bytes) refl in (
        omega arith,
        (
          tree,
          (
            omega
                (arith, ap length e, length-append before (bytes ++ rest), length-append bytes rest),
            subst (λ b. EncodedUnder limit b tree) (sym same) are.0,
          ),
          ap (λ b. position_of (length before) b tree) (sym same),
        ),
        subst (λ k. AreInOrder limit input k (positions_of k parts)) size
            (in_order (before ++ bytes) parts (e ∙ sym (append_assoc before bytes rest)) are.1),
      )

  covers :
      (before : List ℕ) (parts : List InputPart) → input ≡ before ++ bytes_of parts
      → AreParts limit (BeginNoValue limit) parts []
      → Covers before (positions_of (length before) parts)
  covers before [] e are offset size tree from (fits, encoded) =
      let some = encoded_some limit (take size (drop offset input)) tree encoded in
      omega (
        arith,
        some,
        fits,
        from,
        ap length e,
        length-append before [],
        length-take-le size (drop offset input) (omega (arith, fits, length-drop offset input)),
      )
  covers before (passed b ∷ parts) e are offset size tree from at =
      let long : length (before ++ b ∷ []) ≡ length before + 1 = length-append before (b ∷ []) in
      elim (cases_lt (length before) offset) [
        | inl less ↦
            subst (λ k. IsInside offset (positions_of k parts)) long
            (covers (before ++ b ∷ []) parts
            (e ∙ sym (append_assoc before (b ∷ []) (bytes_of parts))) are.1 offset size tree
            (omega (arith, less, long)) at)
        | inr not ↦
            absurd
            (at_prefix before (b ∷ bytes_of parts) offset size tree e (omega (arith, not, from)) at
            (subst (λ x. BeginNoValue limit (b ∷ x)) (append-nil (bytes_of parts)) are.0))
      ]
  covers before (sighted bytes other ∷ parts) e are offset size tree from at =
      let long : length (before ++ bytes) ≡ length before + length bytes =
      length-append before bytes in
      elim (cases_lt offset (length before + length bytes)) [
        | inl less ↦ inl (from, less)
        | inr not ↦
            inr
            (subst (λ k. IsInside offset (positions_of k parts)) long
            (covers (before ++ bytes) parts (e ∙ sym (append_assoc before bytes (bytes_of parts)))
            are.1 offset size tree (omega (arith, not, long)) at))
      ]

pub positions_of_all_lemma : ArePositionsOfAll
positions_of_all_lemma limit input positions (parts, is, are, same) = (
  subst (AreInOrder limit input 0) (sym same) (in_order limit input [] parts is are),
  λ offset size tree at.
      subst (IsInside offset) (sym same)
      (covers limit input [] parts is are offset size tree (omega arith) at),
)
