-- Each input consists of stretches and a prefix of a value.
use Rattle.std.proofs.Common.{◌≡◌, ◌⊎◌, ℕ, zero, suc, ◌<◌, ◌≤◌, List, [], ◌∷◌, ◌++◌, length, Option, inl, inr, refl, sym, ap, ◌∙◌, subst, append_assoc, append-nil, length-append, arith}
use Rattle.base_data.specs.model.Bytes.{AreBytes}
use Rattle.marshal_spec.specs.format.Prefix.{IsPrefix}
use Rattle.marshal_spec.proofs.format.EncodeValues.{AreBytes-prefix, AreBytes-rest}
use Rattle.cli_spec.specs.Outcome.{Request, Output}
use Rattle.cmd_scan.specs.found_positions.InputParts.{bytes_of}
use Rattle.cmd_scan.proofs.found_positions.FoundPositionOnceLemmas.{nothing_prefix}
use Rattle.cmd_scan.proofs.found_positions.SomeLemmas.{stretch_of, all_settled, prefix_or}
use Rattle.run_spec.specs.runs.Commands.{Item, text, Split, AllPrint}
use Rattle.cmd_scan.specs.spec.Searching.{IsFirstStretch, searching}
use Rattle.cmd_scan.proofs.spec.ScanSpecLawfulLemmas.{stretch_some}
use Rattle.cmd_scan.proofs.spec.ScanSpecOutputLemmas.{positions_output, output_of_stretch}

module _ (limit : ℕ) where
  -- The bytes begin with `whole`, the shortest start of the bytes that is no prefix of a value.
  record IsDecided (bytes : List ℕ) : Type 0 where
    whole : List ℕ
    later : List ℕ
    bytes_are : bytes ≡ whole ++ later
    none : IsPrefix limit whole → ⊥
    prefix : List ℕ
    last : ℕ
    whole_is : whole ≡ prefix ++ last ∷ []
    before : IsPrefix limit prefix

  first_decided :
      (done todo : List ℕ) → AreBytes (done ++ todo) → IsPrefix limit done
      → IsPrefix limit (done ++ todo) ⊎ IsDecided (done ++ todo)
  first_decided done [] are is_prefix = inl (subst (IsPrefix limit) (sym (append-nil done)) is_prefix)
  first_decided done (b ∷ todo) are is_prefix =
      let same : (done ++ b ∷ []) ++ todo ≡ done ++ b ∷ todo = append_assoc done (b ∷ []) todo in
      let next_are : AreBytes ((done ++ b ∷ []) ++ todo) = subst AreBytes (sym same) are in
      elim (prefix_or limit (done ++ b ∷ []) (AreBytes-prefix (done ++ b ∷ []) todo next_are)) [
        | inl more ↦
            subst (λ x. IsPrefix limit x ⊎ IsDecided x) same
            (first_decided (done ++ b ∷ []) todo next_are more)
        | inr none ↦ inr (record {
          whole = done ++ b ∷ [];
          later = todo;
          bytes_are = sym same;
          none = none;
          prefix = done;
          last = b;
          whole_is = refl;
          before = is_prefix;
        })
      ]

  abbrev HasFirst : List ℕ → Type 0
  HasFirst bytes = (item : Item) × (more : List ℕ) × IsFirstStretch limit bytes item more

  first_stretch : (bytes : List ℕ) → AreBytes bytes → IsPrefix limit bytes ⊎ HasFirst bytes
  first_stretch bytes are = by (first_decided [] bytes are (nothing_prefix limit)) where
    by : IsPrefix limit bytes ⊎ IsDecided bytes → IsPrefix limit bytes ⊎ HasFirst bytes
    by (inl prefix) = inl prefix
    by (inr d) =
        let s = all_settled limit (length d.whole) d.whole
        (AreBytes-prefix d.whole d.later (subst AreBytes d.bytes_are are)) (omega arith) in
        inr (
          text (bytes_of s.parts),
          s.pending ++ d.later,
          record {
            parts = s.parts;
            pending = s.pending;
            later = d.later;
            is = refl;
            more_is = refl;
            bytes_are =
                d.bytes_are
                ∙ (ap (λ w. w ++ d.later) s.bytes_are
                ∙ append_assoc (bytes_of s.parts) s.pending d.later);
            stretch =
                stretch_of limit d.whole d.none (d.prefix, d.last, d.whole_is, d.before) s;
          },
        )

  module _ (limit_by : Request → Option ℕ) where
    -- After the items `before`, the bytes are items with this output, followed by a prefix of a
    -- value.
    pub record IsHeld (before : List Item) (bytes : List ℕ) : Type 0 where
      pub items : List Item
      pub output : List Output
      pub rest : List ℕ
      pub split : Split (searching limit_by) limit before bytes items rest
      pub all_print : AllPrint (searching limit_by) limit before items output
      pub is_prefix : IsPrefix limit rest
      pub are_bytes : AreBytes rest

    none_held :
        (before : List Item) (bytes : List ℕ) → AreBytes bytes → IsPrefix limit bytes
        → IsHeld before bytes
    none_held before bytes are prefix = record {
      items = [];
      output = [];
      rest = bytes;
      split = refl;
      all_print = tt;
      is_prefix = prefix;
      are_bytes = are;
    }

    one_held :
        (before : List Item) (bytes : List ℕ) (item : Item) (more : List ℕ)
        → IsFirstStretch limit bytes item more → IsHeld (before ++ item ∷ []) more
        → IsHeld before bytes
    one_held before bytes item more h next = record {
      items = item ∷ next.items;
      output = positions_output before h.parts ∷ next.output;
      rest = next.rest;
      split = (more, h, next.split);
      all_print = (output_of_stretch limit before bytes item more h, next.all_print);
      is_prefix = next.is_prefix;
      are_bytes = next.are_bytes;
    }

    shorter :
        (bytes : List ℕ) (item : Item) (more : List ℕ) → IsFirstStretch limit bytes item more
        → length more < length bytes
    shorter bytes item more h =
        let some = stretch_some limit h.parts h.pending h.stretch in
        omega (arith, some, ap length h.bytes_are, length-append (bytes_of h.parts) more)

    pub all_held :
        (n : ℕ) (before : List Item) (bytes : List ℕ) → AreBytes bytes → length bytes ≤ n
        → IsHeld before bytes
    all_held zero before bytes are fits =
        elim (first_stretch bytes are) [
          | inl prefix ↦ none_held before bytes are prefix
          | inr (item, more, h) ↦
              let less = shorter bytes item more h in absurd (omega (arith, less, fits))
        ]
    all_held (suc n) before bytes are fits =
        elim (first_stretch bytes are) [
          | inl prefix ↦ none_held before bytes are prefix
          | inr (item, more, h) ↦
              let less = shorter bytes item more h in
              one_held before bytes item more h
              (all_held n (before ++ item ∷ []) more
              (AreBytes-rest (bytes_of h.parts) more (subst AreBytes h.bytes_are are))
              (omega (arith, less, fits)))
        ]
