-- The parts of an input, and its first stretch, are unique.
use Rattle.std.proofs.Common.{◌≡◌, ℕ, ◌<◌, ◌≤◌, List, [], ◌∷◌, ◌++◌, length, take, drop, Option, Some, None, inl, inr, refl, sym, ap, ◌∙◌, subst, append_assoc, append-nil, length-append, take_at, arith}
use Rattle.std.proofs.lemmas.Bool.{cases_order}
use Rattle.std.proofs.lemmas.List.{append_cancel_left}
use Rattle.base_data.specs.declared.model.refusal.ReadRefusal.{ReadRefusal}
use Rattle.marshal_spec.specs.format.Prefix.{IsPrefix}
use Rattle.marshal_spec.specs.format.Header.{header_length}
use Rattle.marshal_spec.specs.format.Encoded.{EncodedUnder}
use Rattle.marshal_spec.specs.format.Step.{first_refusal, header_steps}
use Rattle.marshal_spec.specs.format.Tree.{Tree}
use Rattle.marshal_spec.proofs.format.JudgementLaws.{value_at_once}
use Rattle.marshal_spec.proofs.format.FormatNextLemmas.{header_goes_on}
use Rattle.marshal_spec.proofs.format.RawLemmas.{same_prefix, prefix_within}
use Rattle.marshal_spec.proofs.format.FormatStepLemmas.{EndWithin-low}
use Rattle.marshal_spec.proofs.format.TokenStepLemmas.{header_length-from, header_steps-within}
use Rattle.cmd_scan.specs.found_positions.InputParts.{InputPart, passed, sighted, bytes_of, BeginNoValue, AreRefused, AreParts, IsStretch}
use Rattle.cmd_scan.proofs.found_positions.FoundPositionPrefixLemmas.{refused_no_value, no_prefix, stretch_no_prefix, part_some}

-- At most one value is encoded at the start of some bytes.
pub value_once :
    (limit : ℕ) (v w x y : List ℕ) (t u : Tree) → v ++ x ≡ w ++ y → EncodedUnder limit v t
    → EncodedUnder limit w u → (v ≡ w) × (t ≡ u) × (x ≡ y)
value_once limit v w x y t u e s r =
    let bytes = v ++ x in
    let at_v : take (length v) bytes ≡ v = take_at v x (length v) refl in
    let at_w : take (length w) bytes ≡ w = ap (take (length w)) e ∙ take_at w y (length w) refl in
    let once = value_at_once limit bytes (length v) (length w) t u
    (omega (arith, length-append v x)) (omega (arith, ap length e, length-append w y))
    (subst (λ b. EncodedUnder limit b t) (sym at_v) s)
    (subst (λ b. EncodedUnder limit b u) (sym at_w) r) in
    let same : v ≡ w = same_prefix v w x y once.0 e in
    (same, once.1, append_cancel_left v x y (e ∙ ap (λ b. b ++ y) (sym same)))

module _ (limit : ℕ) (Passed : List ℕ → Type 0)
    (no_value : (bytes : List ℕ) → Passed bytes → BeginNoValue limit bytes) where
  -- The bytes begin with no part.
  abbrev IsEnd : List ℕ → Type 0
  IsEnd bytes = (part : InputPart) (parts : List InputPart) (rest : List ℕ)
      → bytes ≡ bytes_of (part ∷ parts) ++ rest → AreParts limit Passed (part ∷ parts) rest → ⊥

  pub same_parts :
      (parts others : List InputPart) (rest more : List ℕ)
      → bytes_of parts ++ rest ≡ bytes_of others ++ more → AreParts limit Passed parts rest
      → AreParts limit Passed others more → IsEnd rest → IsEnd more
      → (parts ≡ others) × (rest ≡ more)
  same_parts [] [] rest more e are others_are ends others_end = (refl, e)
  same_parts [] (other ∷ others) rest more e are others_are ends others_end =
      absurd (ends other others more e others_are)
  same_parts (part ∷ parts) [] rest more e are others_are ends others_end =
      absurd (others_end part parts rest (sym e) are)
  same_parts (passed a ∷ parts) (passed b ∷ others) rest more e are others_are ends others_end =
      let same : a ∷ (bytes_of parts ++ rest) ≡ b ∷ (bytes_of others ++ more) = e in
      let byte : a ≡ b = cc in
      let left : bytes_of parts ++ rest ≡ bytes_of others ++ more = cc in
      let next = same_parts parts others rest more left are.1 others_are.1 ends others_end in
      (λ i. passed (byte i) ∷ next.0 i, next.1)
  same_parts (passed a ∷ parts) (sighted w u ∷ others) rest more e are others_are ends others_end =
      absurd
      (no_value (a ∷ (bytes_of parts ++ rest)) are.0 w (bytes_of others ++ more) u
      (e ∙ append_assoc w (bytes_of others) more) others_are.0)
  same_parts (sighted v t ∷ parts) (passed b ∷ others) rest more e are others_are ends others_end =
      absurd
      (no_value (b ∷ (bytes_of others ++ more)) others_are.0 v (bytes_of parts ++ rest) t
      (sym e ∙ append_assoc v (bytes_of parts) rest) are.0)
  same_parts (sighted v t ∷ parts) (sighted w u ∷ others) rest more e are others_are ends
      others_end =
      let once = value_once limit v w (bytes_of parts ++ rest) (bytes_of others ++ more) t u
      (sym (append_assoc v (bytes_of parts) rest)
      ∙ (e ∙ append_assoc w (bytes_of others) more)) are.0 others_are.0 in
      let next = same_parts parts others rest more once.2 are.1 others_are.1 ends others_end in
      (λ i. sighted (once.0 i) (once.1 i) ∷ next.0 i, next.1)

-- ---- the whole input

-- The empty list of bytes begins with no part.
nothing_ends :
    (limit : ℕ) (Passed : List ℕ → Type 0) (part : InputPart) (parts : List InputPart) (rest : List ℕ)
    → [] ≡ bytes_of (part ∷ parts) ++ rest → AreParts limit Passed (part ∷ parts) rest → ⊥
nothing_ends limit Passed (passed byte) parts rest e are = cc e
nothing_ends limit Passed (sighted value tree) parts rest e are =
    let some = part_some limit Passed (sighted value tree) parts rest are in
    omega (
      arith,
      some,
      ap length e,
      length-append (value ++ bytes_of parts) rest,
      length-append value (bytes_of parts),
    )

pub parts_once :
    (limit : ℕ) (bytes : List ℕ) (parts others : List InputPart) → bytes ≡ bytes_of parts
    → bytes ≡ bytes_of others → AreParts limit (BeginNoValue limit) parts []
    → AreParts limit (BeginNoValue limit) others [] → parts ≡ others
parts_once limit bytes parts others p q are others_are =
    (same_parts limit (BeginNoValue limit) (λ b none. none) parts others [] []
    (append-nil (bytes_of parts) ∙ (sym p ∙ (q ∙ sym (append-nil (bytes_of others))))) are others_are
    (nothing_ends limit (BeginNoValue limit)) (nothing_ends limit (BeginNoValue limit))).0

-- ---- the first stretch

-- The empty list of bytes is a value prefix.
pub nothing_prefix : (limit : ℕ) → IsPrefix limit []
nothing_prefix limit =
    inl
    (header_goes_on limit [] (by (first_refusal 0 (header_steps limit [])) refl)
    (omega (arith, header_length-from [])))
  where
    by : (refusal : Option ReadRefusal) → first_refusal 0 (header_steps limit []) ≡ refusal
        → first_refusal 0 (header_steps limit []) ≡ None
    by None e = e
    by (Some refusal) e =
        let late = EndWithin-low 4 (header_length []) 0 (header_steps limit []) refusal
        (header_steps-within limit []) e in
        absurd (omega (arith, late))

-- The determined parts and the value prefix after them are unique.
pub settled_once :
    (limit : ℕ) (parts others : List InputPart) (rest more : List ℕ)
    → bytes_of parts ++ rest ≡ bytes_of others ++ more
    → AreParts limit (AreRefused limit) parts rest
    → AreParts limit (AreRefused limit) others more → IsPrefix limit rest → IsPrefix limit more
    → (parts ≡ others) × (rest ≡ more)
settled_once limit parts others rest more e are others_are prefix others_prefix =
    same_parts limit (AreRefused limit) (refused_no_value limit) parts others rest more e are
    others_are (prefix_ends rest prefix) (prefix_ends more others_prefix)
  where
    prefix_ends :
        (rest : List ℕ) → IsPrefix limit rest → (part : InputPart) (parts : List InputPart) (more : List ℕ)
        → rest ≡ bytes_of (part ∷ parts) ++ more
        → AreParts limit (AreRefused limit) (part ∷ parts) more → ⊥
    prefix_ends rest prefix part parts more e are =
        no_prefix limit rest part parts more [] (e ∙ sym (append-nil (bytes_of (part ∷ parts) ++ more)))
        are prefix

-- No stretch is a proper prefix of another stretch.
not_longer :
    (limit : ℕ) (parts others : List InputPart) (pending more x y : List ℕ)
    → IsStretch limit parts pending → IsStretch limit others more
    → (bytes_of parts ++ pending) ++ x ≡ (bytes_of others ++ more) ++ y
    → length (bytes_of parts ++ pending) < length (bytes_of others ++ more) → ⊥
not_longer limit parts others pending more x y s t e less =
    let whole = bytes_of parts ++ pending in
    let other : bytes_of others ++ more ≡ t.prefix ++ t.last ∷ [] = t.bytes_are in
    let fits : length whole ≤ length t.prefix =
    omega (arith, less, ap length other, length-append t.prefix (t.last ∷ [])) in
    let all : t.prefix ++ (t.last ∷ y) ≡ whole ++ x =
    sym (append_assoc t.prefix (t.last ∷ []) y) ∙ (ap (λ b. b ++ y) (sym other) ∙ sym e) in
    let split : t.prefix ≡ whole ++ drop (length whole) t.prefix =
    prefix_within t.prefix whole (t.last ∷ y) x fits all in
    stretch_no_prefix limit parts pending (drop (length whole) t.prefix) s
    (subst (IsPrefix limit) split t.before)

pub stretch_once :
    (limit : ℕ) (parts others : List InputPart) (pending more x y : List ℕ)
    → IsStretch limit parts pending → IsStretch limit others more
    → (bytes_of parts ++ pending) ++ x ≡ (bytes_of others ++ more) ++ y
    → (parts ≡ others) × (pending ≡ more) × (x ≡ y)
stretch_once limit parts others pending more x y s t e =
    elim (cases_order (length (bytes_of parts ++ pending)) (length (bytes_of others ++ more))) [
      | inl l ↦
          let v = bytes_of parts ++ pending in
          let w = bytes_of others ++ more in
          let same : v ≡ w = same_prefix v w x y l e in
          let once = settled_once limit parts others pending more same s.are t.are s.is_prefix
          t.is_prefix in (
            once.0,
            once.1,
            append_cancel_left v x y (e ∙ ap (λ b. b ++ y) (sym same)),
          )
      | inr (inl l) ↦ absurd (not_longer limit parts others pending more x y s t e l)
      | inr (inr l) ↦ absurd (not_longer limit others parts more pending y x t s (sym e) l)
    ]
