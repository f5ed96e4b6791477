-- The result of a reader on bytes after a prefix of a value.
use Rattle.std.proofs.Common.{◌≡◌, ◌≢◌, ℕ, zero, suc, ◌+◌, ◌<◌, ◌≤◌, Bool, true, false, List, [], ◌∷◌, ◌++◌, length, take, drop, inl, inr, refl, sym, ap, ◌∙◌, subst, append_assoc, append-nil, take_all, take-append-drop, arith}
use Rattle.std.specs.Prelude.{not, Result, Ok, Err, IfOk}
use Rattle.std.proofs.Math.Seq.{take-add}
use Rattle.base_data.specs.model.Bytes.{AreBytes}
use Rattle.base_data.specs.declared.model.refusal.ReadRefusal.{ReadRefusal}
use Rattle.base_data.specs.declared.model.refusal.ReadRefusal.TheVariants as refusals
use Rattle.marshal_spec.specs.format.Prefix.{IsPrefix, IsRefused}
use Rattle.marshal_spec.specs.format.Encoded.{EncodedUnder}
use Rattle.marshal_spec.specs.format.Tree.{Tree}
use Rattle.marshal_read.specs.declared.reader.Reader.{Reader}
use Rattle.marshal_read.specs.declared.reader.Fed.{Fed}
use Rattle.marshal_read.specs.Reader.{IsReader, LeadsReader, Feeds}
use Rattle.marshal_read.specs.Reading.{RefusedIn}
use Rattle.marshal_read.proofs.ReaderReadingLemmas.{unless_memory}
use Rattle.cmd_scan.specs.found_positions.InputParts.{AreRefused}
use Rattle.cmd_scan.proofs.found_positions.FoundPositionPrefixLemmas.{prefix_no_value, refused_no_prefix}
use Rattle.cmd_scan.proofs.found_positions.SomeLemmas.{value_last}
use Rattle.cmd_scan.specs.declared.command.last.TakenBytes.{TakenBytes}
use Rattle.cmd_scan.specs.command.Last.{IsDecided, IsRefusal, TakesByte, TakesBytes}

module _ (limit : ℕ) where
  -- A complete value is not a proper prefix of a value.
  no_prefix_value : (bytes : List ℕ) (tree : Tree) → EncodedUnder limit bytes tree → IsPrefix limit bytes → ⊥
  no_prefix_value bytes tree encoded prefix =
      prefix_no_value limit bytes prefix bytes [] tree (sym (append-nil bytes)) encoded

  -- The last byte of a value decides what the value's bytes begin with.
  pub value_decided :
      (bytes : List ℕ) (tree : Tree) → AreBytes bytes → EncodedUnder limit bytes tree
      → IsDecided limit bytes
  value_decided bytes tree are encoded =
      let v = value_last limit bytes tree are encoded in record {
        none = no_prefix_value bytes tree encoded;
        prefix = v.0;
        last = v.1;
        bytes_are = v.2;
        before = v.3;
      }

  -- Suppose bytes are a prefix of a value without their last byte, and no prefix with it. Then the
  -- last byte decides what the bytes begin with.
  one_decides :
      (taken byte : List ℕ) → length byte ≡ 1 → IsPrefix limit taken
      → (IsPrefix limit (taken ++ byte) → ⊥) → IsDecided limit (taken ++ byte)
  one_decides taken [] one prefix none = absurd (omega (arith, one))
  one_decides taken (b ∷ []) one prefix none = record {
    none = none;
    prefix = taken;
    last = b;
    bytes_are = refl;
    before = prefix;
  }
  one_decides taken (b ∷ c ∷ more) one prefix none = absurd (omega (arith, one))

  -- ---- a prefix is read again

  pub prefix_taken :
      (bytes : List ℕ) (new : Reader) (fed : Fed) → Feeds limit [] bytes new fed
      → IsPrefix limit bytes → LeadsReader limit bytes new
  prefix_taken bytes new fed f prefix = by fed.done refl where
    by : (done : Bool) → fed.done ≡ done → LeadsReader limit bytes new
    by false e =
        subst (λ b. LeadsReader limit b new) (take_all fed.taken bytes (omega (arith, (f.more e).0))) f.leads
    by true e =
        let v = (f.done e).1 in
        absurd (prefix_no_value limit bytes prefix (take fed.taken bytes) (drop fed.taken bytes) v.0
        (sym (take-append-drop fed.taken bytes)) v.1)

  -- ---- one byte

  module _ (taken byte : List ℕ) (one : length byte ≡ 1) (prefix : IsPrefix limit taken) where
    pub byte_taken :
        (E : Type 0) (new : Reader) (fed : Fed) → IsReader new → Feeds limit taken byte new fed
        → (goes_on : Bool) → goes_on ≡ not fed.done → TakesByte {E = E} limit taken byte new (Ok goes_on)
    byte_taken E new fed reader f goes_on is =
        subst (λ g. TakesByte {E = E} limit taken byte new (Ok g)) (sym is) (by fed.done refl)
      where
        none : fed.done ≡ true → IsPrefix limit (taken ++ byte) → ⊥
        none e prefix' =
            let v = (f.done e).1 in
            prefix_no_value limit (taken ++ byte) prefix' (taken ++ take fed.taken byte) (drop fed.taken byte) v.0
            (ap (λ b. taken ++ b) (sym (take-append-drop fed.taken byte))
            ∙ sym (append_assoc taken (take fed.taken byte) (drop fed.taken byte))) v.1

        by : (done : Bool) → fed.done ≡ done → TakesByte {E = E} limit taken byte new (Ok (not done))
        by false e =
            let more = f.more e in (
              reader,
              subst (λ b. LeadsReader limit (taken ++ b) new) (take_all fed.taken byte (omega (arith, more.0))) f.leads,
              more.1,
            )
        by true e = one_decides taken byte one prefix (none e)

    -- The reader refuses the byte.
    refused_here : (refusal : ReadRefusal) → RefusedIn limit (taken ++ byte) refusal
        → refusal ≢ refusals.Memory → AreRefused limit (taken ++ byte)
    refused_here refusal refused is =
        elim ((unless_memory refusal ((n : ℕ) × (n ≤ length (taken ++ byte)) × IsRefused limit (take n (taken ++ byte)) refusal)).1 refused) [
          | inl memory ↦ absurd (is memory)
          | inr (m, within, at_m) ↦ (m, refusal, within, at_m)
        ]

    pub byte_refused :
        {E : Type 0} (refusal : ReadRefusal) (new : Reader) (result : Result Bool E)
        → RefusedIn limit (taken ++ byte) refusal → IfOk result (λ g. IsRefusal refusal g)
        → TakesByte {E = E} limit taken byte new result
    byte_refused refusal new (Ok true) refused h = let never : true ≡ false = h.0 in cc never
    byte_refused refusal new (Ok false) refused h =
        one_decides taken byte one prefix
        (refused_no_prefix limit (taken ++ byte) (refused_here refusal refused h.1))
    byte_refused refusal new (Err e) refused is = tt

  -- ---- a chunk

  -- The first `n + 1` bytes of the chunk are the first `n` bytes and one more byte.
  pub next_byte :
      (held chunk : List ℕ) (n : ℕ)
      → (held ++ take n chunk) ++ take 1 (drop n chunk) ≡ held ++ take (n + 1) chunk
  next_byte held chunk n =
      append_assoc held (take n chunk) (take 1 (drop n chunk))
      ∙ ap (λ b. held ++ b) (sym (take-add n 1 chunk))

  -- The first `n + 1` bytes of the chunk are the first `n` bytes and a slice of one byte.
  pub slice_next :
      (held chunk : List ℕ) (n k : ℕ) → k ≡ 1
      → (held ++ take n chunk) ++ take k (drop n chunk) ≡ held ++ take (n + 1) chunk
  slice_next held chunk n k one =
      ap (λ k. (held ++ take n chunk) ++ take k (drop n chunk)) one ∙ next_byte held chunk n

  -- If the reader takes bytes of the chunk, then the result is as `TakesBytes` states.
  pub chunk_taken :
      (held chunk : List ℕ) (new : Reader) (fed : Fed) (t : TakenBytes) → 0 < length chunk
      → IsPrefix limit held → Feeds limit held chunk new fed → t.bytes ≡ fed.taken
      → t.decided ≡ fed.done → TakesBytes limit held chunk new t
  chunk_taken held chunk new fed t some prefix f bytes decided = record {
    some = omega (arith, bytes, some_taken fed.done refl);
    within = omega (arith, bytes, f.within);
    more = λ e.
        let m = f.more (sym decided ∙ e) in
        let all = sym (take_all t.bytes chunk (omega (arith, bytes, m.0))) in
        let same = ap (λ n. take n chunk) (sym bytes) in
        (subst (λ b. IsPrefix limit (held ++ b)) all m.1, subst (λ b. LeadsReader limit (held ++ b) new) same f.leads);
    last = λ e.
        let v = (f.done (sym decided ∙ e)).1 in
        let same = ap (λ n. held ++ take n chunk) (sym bytes) in
        subst (IsDecided limit) same
        (value_decided (held ++ take fed.taken chunk) v.0 f.leads.bytes v.1);
  } where
    some_taken : (done : Bool) → fed.done ≡ done → 0 < fed.taken
    some_taken false e = omega (arith, (f.more e).0, some)
    some_taken true e = by fed.taken refl where
      by : (n : ℕ) → fed.taken ≡ n → 0 < fed.taken
      by zero none =
          let v = (f.done e).1 in
          let same : held ++ take fed.taken chunk ≡ held =
          ap (λ n. held ++ take n chunk) none ∙ append-nil held in
          absurd (no_prefix_value held v.0 (subst (λ b. EncodedUnder limit b v.0) same v.1) prefix)
      by (suc n) is = omega (arith, is)

  -- If the chunk is read again and a byte decides, then the result is as `TakesBytes` states.
  pub chunk_found :
      (held chunk : List ℕ) (new : Reader) (t : TakenBytes) → (0 < t.bytes) × (t.bytes ≤ length chunk)
      × IsDecided limit (held ++ take t.bytes chunk) → t.decided ≡ true
      → TakesBytes limit held chunk new t
  chunk_found held chunk new t (some, within, decided) is = record {
    some = some;
    within = within;
    more = λ e. let never : true ≡ false = sym is ∙ e in cc never;
    last = λ e. decided;
  }
