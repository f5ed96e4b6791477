-- The result of a reader determines the next part.
use Rattle.std.proofs.Common.{◌≡◌, ◌⊎◌, ℕ, ◌<◌, ◌≤◌, List, [], ◌∷◌, ◌++◌, length, map, take, drop, inl, inr, refl, sym, ap, ◌∙◌, subst, append-nil, take-append-drop, take_all, arith}
use Rattle.std.specs.Prelude.{false, Result, Ok, Err}
use Rattle.std.proofs.lemmas.List.{length-take-le}
use Rattle.base_data.specs.declared.model.refusal.ReadRefusal.{ReadRefusal}
use Rattle.base_data.specs.declared.model.refusal.ReadRefusal.TheVariants as refusals
use Rattle.marshal_spec.specs.format.Prefix.{IsRefused}
use Rattle.marshal_spec.specs.format.Encoded.{EncodedUnder}
use Rattle.marshal_spec.specs.format.Token.{measure_of}
use Rattle.marshal_spec.specs.format.Tree.{Tree, tokens, objects_of, root}
use Rattle.marshal_spec.specs.format.Words.{all_words64}
use Rattle.marshal_heap.specs.heap.Heap.{heap_words}
use Rattle.marshal_read.specs.declared.reader.Reader.{Reader}
use Rattle.marshal_read.specs.declared.reader.Fed.{Fed}
use Rattle.marshal_read.specs.declared.returned_value.Value.{Value}
use Rattle.marshal_read.specs.Reader.{LeadsReader, Feeds, Finishes}
use Rattle.marshal_read.specs.Reading.{RefusedIn}
use Rattle.marshal_read.proofs.ReaderReadingLemmas.{unless_memory}
use Rattle.types_spec.specs.types.VerdictText.{kind_text}
use Rattle.cmd_scan.specs.found_positions.InputParts.{passed, sighted, bytes_of, AreRefused}
use Rattle.cmd_scan.specs.found_positions.ValuePositions.{position_of, line_of}
use Rattle.marshal_spec.proofs.format.JudgementLaws.{encoded_some}
use Rattle.cmd_scan.specs.declared.sweep.next_part.NextPart.{NextPart}
use Rattle.cmd_scan.specs.sweep.Swept.{position_read, PassesOne, Takes, AreWaiting, IsNext}
use Rattle.cmd_scan.proofs.sweep.ClaimLemmas.{same_head}

-- The position computed from the result is the position of the value.
position_is :
    (limit at size : ℕ) (taken : List ℕ) (value : Value) → Finishes limit taken value
    → length taken ≡ size
    → (tree : Tree) × EncodedUnder limit taken tree × (position_read at size value ≡ position_of at taken tree)
position_is limit at size taken value f long = (
  f.tree,
  s,
  λ i. record {
    offset = at;
    size = sym long i;
    words = words i;
    objects = length (heap i);
    kind = kind_text (heap i) (root_is i);
  },
) where
  s : EncodedUnder limit taken f.tree
  s = f.encoded

  heap : value.heap ≡ objects_of f.tree 0
  heap = f.is_value.heap

  root_is : value.root ≡ root f.tree 0
  root_is = f.is_value.root

  words : heap_words value.heap ≡ all_words64 (map measure_of (tokens f.tree))
  words =
      f.words
      ∙ (ap (λ h. h.w64) (sym (same_head limit taken taken [] f.tree (sym (append-nil taken)) s))
      ∙ s.encodes.states.w64)

module _ (limit at : ℕ) (bytes old new : List ℕ) where
  -- If a value is read from the first `n` bytes and its line is appended, then the next part is the
  -- value.
  pub value_part :
      (n : ℕ) (value : Value) → n ≤ length bytes → Finishes limit (take n bytes) value
      → new ≡ old ++ line_of (position_read at n value)
      → (0 < n) × (rest : List ℕ) × Takes limit at bytes old new (AreRefused limit) n rest
  value_part n value fits done text_is =
      let taken = take n bytes in
      let size : length taken ≡ n = length-take-le n bytes fits in
      let (tree, encoded, same) = position_is limit at n taken value done size in
      let some = encoded_some limit taken tree encoded in
      let all : bytes_of (sighted taken tree ∷ []) ≡ taken = append-nil taken in (
        omega (arith, some, size),
        drop n bytes,
        (
          record {
            parts = sighted taken tree ∷ [];
            bytes_are = sym (ap (λ b. b ++ drop n bytes) all ∙ take-append-drop n bytes);
            are = (encoded, tt);
            text_is =
                text_is ∙ ap (λ p. old ++ p)
                (ap line_of same ∙ sym (append-nil (line_of (position_of at taken tree))));
          },
          sym (ap length all ∙ size),
        ),
      )

  pub value_next :
      (reader : Reader) (fed : Fed) (value : Value) → Feeds limit [] bytes reader fed
      → Finishes limit (take fed.taken bytes) value
      → new ≡ old ++ line_of (position_read at fed.taken value)
      → (0 < fed.taken) × (rest : List ℕ) × Takes limit at bytes old new (AreRefused limit) fed.taken rest
  value_next reader fed value f = value_part fed.taken value f.within

  -- If the reader takes all bytes without a decision, then the bytes may still become a value.
  pub waits_next :
      (reader : Reader) (fed : Fed) → Feeds limit [] bytes reader fed
      → fed.done ≡ false → new ≡ old → AreWaiting limit at bytes old new reader bytes × (new ≡ old)
  waits_next reader fed f more same =
      let m = f.more more in (
        (
          m.1,
          subst (λ b. LeadsReader limit b reader) (take_whole fed.taken bytes m.0) f.leads,
        ),
        same,
      )
    where
      take_whole : (n : ℕ) (xs : List ℕ) → n ≡ length xs → take n xs ≡ xs
      take_whole n xs e = take_all n xs (omega (arith, e))

  -- If the bytes are refused, then the next part is one skipped byte.
  one_passed :
      (bytes : List ℕ) → 0 < length bytes → AreRefused limit bytes → new ≡ old
      → (0 < 1) × (rest : List ℕ) × Takes limit at bytes old new (AreRefused limit) 1 rest
  one_passed [] some refused same = absurd (omega (arith, some))
  one_passed (b ∷ rest) some refused same = (
    omega arith,
    rest,
    (
      record {
        parts = passed b ∷ [];
        bytes_are = refl;
        are = (refused, tt);
        text_is = same ∙ sym (append-nil old);
      },
      refl,
    ),
  )

  pub refused_next :
      {E : Type 0} (refusal : ReadRefusal) (result : Result NextPart E) → 0 < length bytes → new ≡ old
      → RefusedIn limit bytes refusal → PassesOne refusal result
      → IsNext limit at bytes old new result
  refused_next refusal (Err e) some same refused passes = tt
  refused_next {E} refusal (Ok next) some same refused (is, other) =
      subst (λ n. IsNext limit at bytes old new {E = E} (Ok n)) (sym is)
      (one_passed bytes some
      (by
      ((unless_memory refusal
      ((n : ℕ) × (n ≤ length bytes) × IsRefused limit (take n bytes) refusal)).1 refused)) same)
    where
      by : (refusal ≡ refusals.Memory)
          ⊎ ((n : ℕ) × (n ≤ length bytes) × IsRefused limit (take n bytes) refusal)
          → AreRefused limit bytes
      by (inl memory) = absurd (other memory)
      by (inr (n, within, at_n)) = (n, refusal, within, at_n)
