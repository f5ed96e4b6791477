-- The end of the input and the refusal of bytes are unique, and the tables are exact about the end
-- of the input.
use Rattle.std.proofs.Common.{◌≡◌, ℕ, List, [], ◌++◌, length, inl, inr, refl, sym, ap, ◌∙◌, subst}
use Rattle.std.specs.Prelude.{◌↔◌}
use Rattle.base_data.specs.model.Bytes.{AreBytes}
use Rattle.base_data.specs.declared.model.refusal.ReadRefusal.{ReadRefusal}
use Rattle.marshal_spec.specs.format.Stream.{EncodeAll, StreamEnd, clean, refused, cut, IsTail}
use Rattle.marshal_spec.specs.format.Tree.{Tree}
use Rattle.cli_spec.specs.declared.status.Status.{Status}
use Rattle.cli_spec.specs.Outcome.{ending_of, Output, Reply, exits, Replies, replies}
use Rattle.cli_spec.specs.RefusalText.{refusal_text, truncated_text}
use Rattle.cli_spec.specs.declared.exit.Exit.{Exit}
use Rattle.cli_spec.specs.declared.exit.Exit.TheVariants.{Value as value}
use Rattle.run_spec.specs.runs.Commands.{Item, Commands, OutputsFirst, GoesOn}
use Rattle.run_spec.specs.runs.Lawful.{IsOnce, IsInner}
use Rattle.run_spec.specs.runs.RunSpec.{HoldEnd}
use Rattle.run_spec.proofs.runs.StreamLemmas.{encode_bytes}
use Rattle.run_spec.specs.value_commands.Tasks.{items_of}
use Rattle.run_spec.proofs.value_commands.ValueCommandItemLemmas.{end_once, items_length}
use Rattle.run_spec.proofs.value_commands.StayLemmas.{tail_after}
use Rattle.run_spec.specs.exit_statuses.NumberedItems.{HoldsOfAll}
use Rattle.run_spec.proofs.exit_statuses.ExitStatusOutputLemmas.{exit_status}
use Rattle.cmd_certify.specs.spec.RefusedEnd.{ComesRefused, EndsBy, EndsHere, EndWith}

-- ---- refusals of bytes

module _ (limit number : ℕ) (bytes : List ℕ) where
  pub refused_stays :
      (later : List ℕ) (exit : Exit) → ComesRefused limit number bytes exit
      → ComesRefused limit number (bytes ++ later) exit
  refused_stays later exit h = record {
    refusal = h.refusal;
    tail = tail_after limit bytes later h.refusal h.tail;
    is = h.is;
  }

  pub refused_once : AreBytes bytes → IsOnce (ComesRefused limit number bytes)
  refused_once are_bytes exit other h k =
      let one = end_once limit bytes are_bytes (refused h.refusal) (refused k.refusal) h.tail k.tail in
      let same : h.refusal ≡ k.refusal = cc one in
      h.is ∙ (ap (λ r. value number (refusal_text r)) same ∙ sym k.is)

-- ---- the final reply

module _ (limit : ℕ) (EndsClean : ℕ → Reply → Type 0) where
  ends_once :
      ((number : ℕ) → IsOnce (EndsClean number)) → (number : ℕ) (end : StreamEnd)
      → IsOnce (EndsBy limit EndsClean number end)
  ends_once once number clean last other h k = once number last other h k
  ends_once once number (refused refusal) last other h k = absurd h
  ends_once once number (cut n) last other h k = h ∙ sym k

  pub end_reply_once :
      ((number : ℕ) → IsOnce (EndsClean number)) → (items : List Item) (bytes : List ℕ)
      → AreBytes bytes → IsOnce (EndsHere limit EndsClean items bytes)
  end_reply_once once items bytes are_bytes last other (end, tail, ends) (end', tail', ends') =
      let same = end_once limit bytes are_bytes end end' tail tail' in
      ends_once once (length items) end' last other
      (subst (λ e. EndsBy limit EndsClean (length items) e last) same ends) ends'

  pub end_inner :
      ((number : ℕ) (exit : Exit) → EndsClean number (exits exit) → IsInner exit)
      → (number : ℕ) (end : StreamEnd) (exit : Exit) → EndsBy limit EndsClean number end (exits exit)
      → IsInner exit
  end_inner inner number clean exit h = inner number exit h
  end_inner inner number (refused refusal) exit h = absurd h
  end_inner inner number (cut n) exit h =
      let is : exit ≡ value number (truncated_text n) = cc h in subst IsInner (sym is) tt

-- ---- the tables

module _ {A : Type 0} (commands : Commands A) (a : A) (limit : ℕ) (EndsClean : ℕ → Reply → Type 0)
    (Has : ℕ → Tree → Type 0) (Finish : List Tree → Status → Type 0)
    (AreOutput : List Tree → List Output → Type 0) where
  -- The hypotheses about the outputs for values, and about the end of the values.
  pub record AreKnown : Type 0 where
    pub all_have : (trees : List Tree) (output : List Output) → AreOutput trees output → HoldsOfAll Has 0 trees
    pub print_some :
        (trees : List Tree) → HoldsOfAll Has 0 trees → (output : List Output) × AreOutput trees output
    pub finish_of :
        (trees : List Tree) (output : List Output) (last : Reply) → AreOutput trees output
        → EndsClean (length trees) last → Finish trees (ending_of (replies output last)).status
    pub finish_output :
        (trees : List Tree) (status : Status) → Finish trees status
        → (all : Replies) × ((ending_of all).status ≡ status) × AreOutput trees all.output
        × EndsClean (length trees) all.last
    pub outputs_first :
        (bytes : List ℕ) (trees : List Tree) (output : List Output) (rest : List ℕ)
        → EncodeAll limit bytes trees rest → AreOutput trees output
        → OutputsFirst commands a bytes (items_of trees) output rest
    pub print_first :
        (bytes : List ℕ) (items : List Item) (output : List Output) (rest : List ℕ)
        → OutputsFirst commands a bytes items output rest
        → (trees : List Tree) × (items ≡ items_of trees) × EncodeAll limit bytes trees rest
        × AreOutput trees output
    pub goes_on :
        (items : List Item) (rest : List ℕ) → AreBytes rest → (end : StreamEnd) → IsTail limit rest end
        → ((refusal : ReadRefusal) → end ≡ refused refusal → ⊥) → GoesOn commands a items rest
    pub ends :
        (items : List Item) (bytes : List ℕ) (last : Reply)
        → commands.Ends a items bytes last ↔ EndsHere limit EndsClean items bytes last

  module _ (known : AreKnown) where
    -- If an input ends with a final reply, then the table contains the status of the run.
    end_row :
        (bytes : List ℕ) (trees : List Tree) (output : List Output) (rest : List ℕ) (last : Reply)
        → EncodeAll limit bytes trees rest → AreOutput trees output → (end : StreamEnd)
        → IsTail limit rest end → EndsBy limit EndsClean (length trees) end last
        → EndWith limit Has Finish bytes (ending_of (replies output last)).status
    end_row bytes trees output rest last encoded are clean tail ends = inl (record {
      trees = trees;
      encoded = subst (EncodeAll limit bytes trees) tail encoded;
      finishes = known.finish_of trees output last are ends;
    })
    end_row bytes trees output rest last encoded are (refused refusal) tail ends = absurd ends
    end_row bytes trees output rest last encoded are (cut n) tail ends = inr (
      exit_status output last (value (length trees) (truncated_text n)) ends,
      record {
        trees = trees;
        rest = rest;
        n = n;
        encoded = encoded;
        certified = known.all_have trees output are;
        tail = tail;
      },
    )

    end_with :
        (bytes : List ℕ) (all : Replies) → HoldEnd commands a bytes all.output all.last
        → EndWith limit Has Finish bytes (ending_of all).status
    end_with bytes all h =
        let values = known.print_first bytes h.items all.output h.rest h.first in
        let number : length h.items ≡ length values.0 = ap length values.1 ∙ items_length values.0 in
        let ends = (known.ends h.items h.rest all.last).0 h.ends in
        end_row bytes values.0 all.output h.rest all.last values.2 values.3 ends.0 ends.1
        (subst (λ n. EndsBy limit EndsClean n ends.0 all.last) number ends.2)

    -- If the table contains a status, then an input ends with a final reply of this status.
    ended :
        (bytes : List ℕ) (trees : List Tree) (rest : List ℕ) (all : Replies) (end : StreamEnd)
        → EncodeAll limit bytes trees rest → AreOutput trees all.output → AreBytes rest
        → IsTail limit rest end → ((refusal : ReadRefusal) → end ≡ refused refusal → ⊥)
        → EndsBy limit EndsClean (length trees) end all.last
        → HoldEnd commands a bytes all.output all.last
    ended bytes trees rest all end encoded are are_bytes tail fine ends = record {
      items = items_of trees;
      rest = rest;
      first = known.outputs_first bytes trees all.output rest encoded are;
      goes_on = known.goes_on (items_of trees) rest are_bytes end tail fine;
      ends = (known.ends (items_of trees) rest all.last).1 (
        end,
        tail,
        subst (λ n. EndsBy limit EndsClean n end all.last) (sym (items_length trees)) ends,
      );
    }

    -- The bytes have replies whose status is `status`.
    abbrev HasEnd : List ℕ → Status → Type 0
    HasEnd bytes status =
        (all : Replies) × ((ending_of all).status ≡ status)
        × HoldEnd commands a bytes all.output all.last

    end_held :
        (bytes : List ℕ) (status : Status) → AreBytes bytes
        → EndWith limit Has Finish bytes status → HasEnd bytes status
    end_held bytes status are_bytes (inl h) =
        let r = known.finish_output h.trees status h.finishes in
        let rest = encode_bytes limit bytes [] h.trees h.encoded are_bytes in (
          r.0,
          r.1,
          ended bytes h.trees [] r.0 clean h.encoded r.2 rest refl (λ r e. cc e) r.3,
        )
    end_held bytes status are_bytes (inr (is, h)) =
        let s = known.print_some h.trees h.certified in
        let last : Reply = exits (value (length h.trees) (truncated_text h.n)) in
        let rest = encode_bytes limit bytes h.rest h.trees h.encoded are_bytes in (
          replies s.0 last,
          sym is,
          ended bytes h.trees h.rest (replies s.0 last) (cut h.n) h.encoded s.1 rest h.tail
              (λ r e. cc e) refl,
        )

    pub have_end :
        (bytes : List ℕ) (status : Status) → AreBytes bytes
        → HasEnd bytes status ↔ EndWith limit Has Finish bytes status
    have_end bytes status are_bytes = (
      λ h. subst (EndWith limit Has Finish bytes) h.1 (end_with bytes h.0 h.2),
      end_held bytes status are_bytes,
    )
