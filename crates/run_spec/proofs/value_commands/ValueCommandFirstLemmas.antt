-- The output for the first values is the output for the first items, and the run continues after
-- the values.
use Rattle.std.proofs.Common.{◌≡◌, ◌⊎◌, ℕ, List, [], ◌∷◌, ◌++◌, length, inl, inr, refl, sym, ap, ◌∙◌, subst, arith}
use Rattle.base_data.specs.model.Bytes.{AreBytes}
use Rattle.base_data.specs.declared.model.refusal.ReadRefusal.{ReadRefusal}
use Rattle.marshal_spec.proofs.format.JudgementLaws.{one_judgement_lem}
use Rattle.marshal_spec.specs.format.Prefix.{IsPrefix}
use Rattle.marshal_spec.specs.format.Stream.{StreamEnd, clean, refused, cut, IsTail}
use Rattle.marshal_spec.specs.format.Tree.{Tree}
use Rattle.cli_spec.specs.Outcome as outcome
use Rattle.cli_spec.specs.Outcome.{Output, Language, Task, PrintFirst, ExitsAt}
use Rattle.cli_spec.specs.declared.exit.Exit.{Exit}
use Rattle.run_spec.specs.runs.Commands.{Item, value, AllPrint, OutputsFirst, GoesOn}
use Rattle.run_spec.proofs.runs.StreamLemmas.{value_or_tail, streams_once}
use Rattle.run_spec.specs.value_commands.Tasks.{items_of, IsRefused, ExitsHere, commands}
use Rattle.run_spec.proofs.value_commands.ValueCommandPrefixLemmas.{split_of}
use Rattle.run_spec.proofs.value_commands.ValueCommandItemLemmas.{items_once, items_more}

-- A proper prefix of a value is empty, or a truncated value.
pub prefix_end : (limit : ℕ) (rest : List ℕ) → IsPrefix limit rest
    → (end : StreamEnd) × IsTail limit rest end × ((refusal : ReadRefusal) → end ≡ refused refusal → ⊥)
prefix_end limit [] prefix = (clean, refl, λ refusal e. cc e)
prefix_end limit (b ∷ rest) prefix =
    (cut (length (b ∷ rest)), (omega arith, refl, prefix), λ refusal e. cc e)

module _ {D T E : Type 0} (language : Language D T E) where
  module _ (a : Task T E) where
    print_of :
        (before : List Item) (earlier : List Tree) → before ≡ items_of earlier
        → (trees : List Tree) (output : List Output)
        → outcome.AllPrint language a.work earlier trees output
        → AllPrint (commands language) a before (items_of trees) output
    print_of before earlier at [] [] h = tt
    print_of before earlier at [] (s ∷ output) h = absurd h
    print_of before earlier at (t ∷ trees) [] h = absurd h
    print_of before earlier at (t ∷ trees) (s ∷ output) (outputs, more) = (
      record { earlier = earlier; are = at; tree = t; is = refl; outputs = outputs },
      print_of (before ++ value t ∷ []) (earlier ++ t ∷ [])
          (ap (λ items. items ++ value t ∷ []) at ∙ sym (items_more earlier t)) trees output more,
    )

    -- If the first values have outputs, then the values as items have the outputs.
    pub outputs_first :
        (bytes : List ℕ) (trees : List Tree) (output : List Output) (rest : List ℕ)
        → PrintFirst language a bytes trees output rest
        → OutputsFirst (commands language) a bytes (items_of trees) output rest
    outputs_first bytes trees output rest h = record {
      split = split_of language a.limit (commands language) a (λ items bytes item more. (λ h. h, λ h. h))
          [] bytes trees rest h.encoded;
      all_print = print_of [] [] refl trees output h.all_print;
    }

  module _ (a : Task T E) (trees : List Tree) (rest : List ℕ) (are_bytes : AreBytes rest) where
    -- The command does not end the run at the bytes `rest`.
    abbrev Free : Type 0
    Free = (exit : Exit) → ExitsAt language a.work a.limit trees rest exit → ⊥

    -- If bytes are no value and are not refused, then the run continues.
    pub goes_on :
        (end : StreamEnd) → IsTail a.limit rest end
        → ((refusal : ReadRefusal) → end ≡ refused refusal → ⊥) → Free
        → GoesOn (commands language) a (items_of trees) rest
    goes_on end tail fine free = record {
      no_exit = λ exit h. exits_not exit h h.why;
      no_item = λ item more h.
          let s = h.encoded in
          value_or_tail one_judgement_lem a.limit s.0 s.1 rest h.tree end are_bytes s.3 s.2 tail;
    } where
      exits_not : (exit : Exit) (h : ExitsHere language a (items_of trees) rest exit)
          → ExitsAt language a.work a.limit h.trees rest exit
          ⊎ IsRefused language a (length h.trees) rest exit → ⊥
      exits_not exit h (inl at) =
          free exit
          (subst (λ t. ExitsAt language a.work a.limit t rest exit)
          (sym (items_once trees h.trees h.are)) at)
      exits_not exit h (inr r) =
          let once = streams_once one_judgement_lem a.limit rest [] [] end (refused r.refusal) are_bytes
          (rest, refl, tail) (rest, refl, r.tail) in
          fine r.refusal once.1
