-- The output for a value, the exit reason and the end of the input are unique. If more bytes
-- follow, outputs and exit reasons remain.
use Rattle.std.proofs.Common.{◌≡◌, ℕ, List, length, sym, ◌∙◌, subst}
use Rattle.base_data.specs.model.Bytes.{AreBytes}
use Rattle.base_data.specs.declared.model.refusal.ReadRefusal.{ReadRefusal}
use Rattle.marshal_spec.specs.format.Stream.{StreamEnd, refused, IsTail}
use Rattle.marshal_spec.specs.format.Tree.{Tree}
use Rattle.cli_spec.specs.Outcome.{exits, Language}
use Rattle.cli_spec.specs.declared.exit.Exit.{Exit}
use Rattle.run_spec.specs.runs.Commands.{Item, GoesOn}
use Rattle.run_spec.specs.runs.Lawful.{IsOnce, IsInner, AreLawfulAt}
use Rattle.run_spec.proofs.value_commands.ValueCommandItemLemmas.{tree_once, end_once, no_tail, first_once, first_prefix, first_stays}
use Rattle.cmd_certify.specs.spec.Certification.{Certification, OutputsSections, OutputsOf, ExitsHere, EndsClean, EndsHere, certifying}
use Rattle.cmd_certify.proofs.spec.CertifySpecEndLemmas.{refused_stays, refused_once, end_reply_once, end_inner}

module _ {T : Type 0} (SectionOf : OutputsSections T) (a : Certification T) where
  exit_inner :
      (items : List Item) (bytes : List ℕ) (exit : Exit) → ExitsHere SectionOf a items bytes exit
      → IsInner exit
  exit_inner items bytes exit h = subst IsInner (sym h.is) tt

  ends_inner :
      (items : List Item) (bytes : List ℕ) (exit : Exit)
      → EndsHere SectionOf a items bytes (exits exit) → IsInner exit
  ends_inner items bytes exit (end, tail, ends) =
      end_inner a.limit (EndsClean SectionOf a) (λ number exit h. absurd (cc h)) (length items) end exit
      ends

  module _ {D E : Type 0} (language : Language D T E) where
    module _ (items : List Item) (rest : List ℕ) (are_bytes : AreBytes rest) (end : StreamEnd)
        (tail : IsTail a.limit rest end)
        (fine : (refusal : ReadRefusal) → end ≡ refused refusal → ⊥) where
      -- If bytes begin with no value and are not refused, then the run continues.
      pub goes_on : GoesOn (certifying language SectionOf) a items rest
      goes_on = record {
        no_exit = λ exit r.
            fine r.refusal (end_once a.limit rest are_bytes end (refused r.refusal) tail r.tail);
        no_item = λ item more h. no_tail a.limit rest are_bytes h.tree more end h.encoded tail;
      }

  module _ {D E : Type 0} (language : Language D T E)
      (once : (number : ℕ) (tree : Tree) → IsOnce (SectionOf a.type number tree)) where
    output_once : (items : List Item) (item : Item) → IsOnce (OutputsOf SectionOf a items item)
    output_once items item output other h k =
        let same = tree_once item h.tree k.tree h.is k.is in
        once (length items) k.tree output other
        (subst (λ t. SectionOf a.type (length items) t output) same h.section) k.section

    pub lawful_at : AreLawfulAt (certifying language SectionOf) a
    lawful_at = record {
      first_once = λ items. first_once language a.limit;
      outputs_once = output_once;
      exits_once = λ items bytes. refused_once a.limit (length items) bytes;
      ends_once = end_reply_once a.limit (EndsClean SectionOf a) (λ number last other h k. h ∙ sym k);
      prefix = λ items. first_prefix language a.limit;
      item_stays = λ items. first_stays language a.limit;
      exit_stays = λ items bytes. refused_stays a.limit (length items) bytes;
      exits_inside = exit_inner;
      ends_inside = ends_inner;
      disjoint = λ items bytes are_bytes item more output exit first known h.
          no_tail a.limit bytes are_bytes first.tree more (refused h.refusal) first.encoded h.tail;
    }
