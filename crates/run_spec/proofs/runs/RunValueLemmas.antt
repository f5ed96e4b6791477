-- One more value, and bytes that follow.
use Rattle.std.proofs.Common.{◌≡◌, ℕ, ◌+◌, ◌<◌, Bool, true, false, List, [], ◌∷◌, ◌++◌, length, take, inl, inr, refl, sym, ap, ◌∙◌, subst, append_assoc, append-nil, length-append, take_all, arith}
use Rattle.std.proofs.lemmas.List.{length-take-le}
use Rattle.std.specs.Prelude.{◌&&◌}
use Rattle.base_data.specs.model.Bytes.{AreBytes}
use Rattle.base_data.specs.declared.model.refusal.ReadRefusal.{ReadRefusal}
use Rattle.marshal_spec.specs.format.Prefix.{IsPrefix, IsRefused}
use Rattle.marshal_spec.specs.format.Judgement.{Judgement, Judges, value}
use Rattle.marshal_spec.specs.format.Judgement as j
use Rattle.marshal_spec.proofs.format.JudgementLaws.{one_judgement_lem}
use Rattle.marshal_spec.specs.format.Tree.{Tree}
use Rattle.marshal_spec.specs.format.Encoded.{EncodedUnder}
use Rattle.marshal_spec.specs.format.Stream.{EncodeAll}
use Rattle.run_spec.proofs.runs.LengthLemmas.{encoded_some}
use Rattle.cli_spec.specs.Outcome.{Language, compares, comparison, Task, Output, Outputs, AllPrint, PrintFirst, texts_of, all_ok}

-- ---- the bytes

-- A proper prefix of a value is no value.
pub not_whole : (limit : ℕ) (bytes : List ℕ) (tree : Tree) → AreBytes bytes → IsPrefix limit bytes → EncodedUnder limit bytes tree → ⊥
not_whole limit bytes tree are_bytes prefix encoded =
    let law = one_judgement_lem limit bytes are_bytes in
    let one = law.1.only j.prefix prefix in
    let other = law.1.only (value (length bytes) tree) (omega arith, subst (λ b. EncodedUnder limit b tree) (sym (take_all (length bytes) bytes (omega arith))) encoded) in
    let both : j.prefix ≡ value (length bytes) tree = one ∙ sym other in cc both

-- Refused bytes are not empty.
pub refused_some : (limit : ℕ) (bytes : List ℕ) (refusal : ReadRefusal) → IsRefused limit bytes refusal → 0 < length bytes
refused_some limit bytes refusal (inl h) = let size : length bytes ≡ length h.prefix + 1 = ap length h.bytes_are ∙ length-append h.prefix (h.last ∷ []) in omega (arith, size)
refused_some limit bytes refusal (inr h) = let size : length bytes ≡ length h.prefix + 1 = ap length h.bytes_are ∙ length-append h.prefix (h.last ∷ []) in omega (arith, size)

-- The empty list of bytes is a proper prefix of a value.
pub nothing_prefix : (limit : ℕ) → AreBytes [] → IsPrefix limit []
nothing_prefix limit are_bytes = let law = one_judgement_lem limit [] are_bytes in from law.0 law.1.holds where
  from : (judgement : Judgement) → Judges limit [] judgement → IsPrefix limit []
  from j.prefix holds = holds
  from (value n tree) holds = let some = encoded_some limit (take n []) tree holds.1 in absurd (omega (arith, some, length-take-le {A = ℕ} n []))
  from (j.refused n refusal) holds = let some = refused_some limit (take n []) refusal holds.1 in absurd (omega (arith, some, length-take-le {A = ℕ} n []))

-- If a value follows a list of values, then the bytes are the list with one more value.
pub encode_snoc : (limit : ℕ) (bytes : List ℕ) (trees : List Tree) (tree : Tree) (first rest : List ℕ)
    → EncodedUnder limit first tree → EncodeAll limit bytes trees (first ++ rest) → EncodeAll limit bytes (trees ++ tree ∷ []) rest
encode_snoc limit bytes [] tree first rest encoded before = (first, rest, before, encoded, refl)
encode_snoc limit bytes (t ∷ trees) tree first rest encoded before =
    (before.0, before.1, before.2, before.3, encode_snoc limit before.1 trees tree first rest encoded before.4)

-- Bytes that are appended remain after the values.
pub encode_after : (limit : ℕ) (bytes rest more : List ℕ) (trees : List Tree) → EncodeAll limit bytes trees rest → EncodeAll limit (bytes ++ more) trees (rest ++ more)
encode_after limit bytes rest more [] same = ap (λ bytes. bytes ++ more) same
encode_after limit bytes rest more (tree ∷ trees) (first, after, same, encoded, all) =
    (first, after ++ more, ap (λ bytes. bytes ++ more) same ∙ append_assoc first after more, encoded, encode_after limit after rest more trees all)

-- ---- the output

pub texts_of-append : (output more : List Output) → texts_of (output ++ more) ≡ texts_of output ++ texts_of more
texts_of-append [] more = refl
texts_of-append (first ∷ output) more =
    ap (λ texts. first.text ++ texts) (texts_of-append output more) ∙ sym (append_assoc first.text (texts_of output) (texts_of more))

pub texts_of-one : (next : Output) → texts_of (next ∷ []) ≡ next.text
texts_of-one next = append-nil next.text

and_assoc : (a b c : Bool) → (a && b) && c ≡ a && (b && c)
and_assoc true b c = refl
and_assoc false b c = refl

pub and_true : (b : Bool) → b && true ≡ b
and_true true = refl
and_true false = refl

pub all_ok-snoc : (output : List Output) (next : Output) → all_ok (output ++ next ∷ []) ≡ all_ok output && next.ok
all_ok-snoc [] next = and_true next.ok
all_ok-snoc (first ∷ output) next =
    ap (λ ok. first.ok && ok) (all_ok-snoc output next) ∙ sym (and_assoc first.ok (all_ok output) next.ok)

-- ---- values that are compared

-- If values are compared, then no output before the final line has an error.
pub silent : {D T E : Type 0} (language : Language D T E) (earlier trees : List Tree) (output : List Output) → AllPrint language compares earlier trees output → all_ok output ≡ true
silent language earlier [] [] h = refl
silent language earlier [] (next ∷ output) h = absurd h
silent language earlier (t ∷ trees) [] h = absurd h
silent language earlier (t ∷ trees) (next ∷ output) h = ap (λ s. s.ok && all_ok output) h.0.1 ∙ silent language (earlier ++ t ∷ []) trees output h.1

-- The line of a comparison is without errors if and only if the values agree.
pub comparison-ok : (agree : Bool) → (comparison agree).ok ≡ agree
comparison-ok true = refl
comparison-ok false = refl

-- ---- one more value

module _ {D T E : Type 0} (language : Language D T E) (task : Task T E) where
  print_snoc : (earlier done trees : List Tree) (output : List Output) (tree : Tree) (next : Output) → done ≡ earlier ++ trees
      → AllPrint language task.work earlier trees output → Outputs language task.work done tree next → AllPrint language task.work earlier (trees ++ tree ∷ []) (output ++ next ∷ [])
  print_snoc earlier done [] [] tree next at before outputs =
      (subst (λ m. Outputs language task.work m tree next) (at ∙ append-nil earlier) outputs, tt)
  print_snoc earlier done [] (first ∷ output) tree next at before outputs = absurd before
  print_snoc earlier done (t ∷ trees) [] tree next at before outputs = absurd before
  print_snoc earlier done (t ∷ trees) (first ∷ output) tree next at before outputs =
      (before.0, print_snoc (earlier ++ t ∷ []) done trees output tree next (at ∙ sym (append_assoc earlier (t ∷ []) trees)) before.1 outputs)

  -- If no value was read, then there is no output.
  pub first_none : (bytes : List ℕ) → PrintFirst language task bytes [] [] bytes
  first_none bytes = record { encoded = refl; all_print = tt }

  -- If one more value with an output follows, then the output grows by the value's output.
  pub first_more : (bytes : List ℕ) (trees : List Tree) (output : List Output) (first rest : List ℕ) (tree : Tree) (next : Output)
      → PrintFirst language task bytes trees output (first ++ rest) → EncodedUnder task.limit first tree → Outputs language task.work trees tree next
      → PrintFirst language task bytes (trees ++ tree ∷ []) (output ++ next ∷ []) rest
  first_more bytes trees output first rest tree next before encoded outputs = record {
    encoded = encode_snoc task.limit bytes trees tree first rest encoded before.encoded;
    all_print = print_snoc [] trees trees output tree next refl before.all_print outputs;
  }

  -- If more bytes follow, then the output for the first values stays the output.
  pub first_after : (bytes : List ℕ) (trees : List Tree) (output : List Output) (rest more : List ℕ)
      → PrintFirst language task bytes trees output rest → PrintFirst language task (bytes ++ more) trees output (rest ++ more)
  first_after bytes trees output rest more before = record {
    encoded = encode_after task.limit bytes rest more trees before.encoded;
    all_print = before.all_print;
  }
