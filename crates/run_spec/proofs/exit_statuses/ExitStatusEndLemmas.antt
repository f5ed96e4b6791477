-- Bytes end with a reply that has a status if and only if `EndWith` holds for the bytes and the
-- status.
use Rattle.std.proofs.Common.{◌≡◌, ◌⊎◌, ℕ, List, [], length, inl, inr, refl, sym, ap, ◌∙◌, subst, arith}
use Rattle.base_data.specs.model.Bytes.{AreBytes}
use Rattle.base_data.specs.declared.model.refusal.ReadRefusal.{ReadRefusal}
use Rattle.marshal_spec.proofs.format.JudgementLaws.{one_judgement_lem}
use Rattle.marshal_spec.specs.format.Stream.{EncodeAll, StreamEnd, clean, refused, cut, IsTail}
use Rattle.marshal_spec.specs.format.Tree.{Tree}
use Rattle.cli_spec.specs.declared.status.Status.{Status}
use Rattle.cli_spec.specs.Outcome.{ending_of, Output, Reply, exits, Replies, replies, Language, ValueWork, reports, edits, dumps, compares, Task, ExitsAt}
use Rattle.cli_spec.specs.RefusalText.{truncated_text}
use Rattle.cli_spec.specs.declared.exit.Exit.{Exit}
use Rattle.cli_spec.specs.declared.exit.Exit.TheVariants.{NotTwoValues as not_two_values, Value as value}
use Rattle.run_spec.specs.runs.RunSpec.{HoldEnd}
use Rattle.run_spec.proofs.runs.StreamLemmas.{value_or_tail, encode_bytes}
use Rattle.run_spec.specs.value_commands.Tasks.{items_of, MayCome, EndsBy, commands}
use Rattle.run_spec.proofs.value_commands.ValueCommandFirstLemmas.{goes_on}
use Rattle.run_spec.proofs.value_commands.ValueCommandItemLemmas.{items_once}
use Rattle.run_spec.specs.exit_causes.Causes.{HaveEnds}
use Rattle.run_spec.specs.exit_statuses.Tables.{values_tables}
use Rattle.run_spec.specs.exit_statuses.ValueStatuses.{EndWith}
use Rattle.run_spec.proofs.exit_statuses.ExitStatusItemLemmas.{AreOutput, outputs_first, print_first}
use Rattle.run_spec.proofs.exit_statuses.ExitStatusOutputLemmas.{exit_status, few_compared, pass_of, pass_output, pass_more, finish_of, finish_output}

-- A truncated value has at least one byte.
split_some : (limit n : ℕ) (rest : List ℕ) → IsTail limit rest (cut n) → rest ≡ [] → ⊥
split_some limit n rest (some, size, prefix) none =
    let zero : length rest ≡ 0 = ap length none in omega (arith, some, size)

module _ {D T E : Type 0} (language : Language D T E) where
  -- If the command does not end the run after values with an output, then one more value may
  -- follow.
  may_come :
      (work : ValueWork T E) (limit : ℕ) (trees : List Tree) (output : List Output) (rest : List ℕ)
      → AreOutput language work [] trees output → (rest ≡ [] → ⊥)
      → ((exit : Exit) → ExitsAt language work limit trees rest exit → ⊥)
      → MayCome language work (length trees)
  may_come (reports query type) limit trees output rest known some none = tt
  may_come (edits type script compat) limit trees output rest known some none = tt
  may_come dumps limit trees output rest known some none = tt
  may_come compares limit trees output rest known some none =
      let most = few_compared language trees output known in
      let not : length trees ≡ 2 → ⊥ = λ two. none not_two_values (two, some, refl) in
      omega (arith, most, not)

  -- ---- an end is a row of the table

  end_row :
      (a : Task T E) (bytes : List ℕ) (trees : List Tree) (output : List Output) (rest : List ℕ)
      (last : Reply) → EncodeAll a.limit bytes trees rest → AreOutput language a.work [] trees output
      → ((exit : Exit) → ExitsAt language a.work a.limit trees rest exit → ⊥)
      → (end : StreamEnd) → IsTail a.limit rest end → EndsBy language a.work trees end last
      → EndWith language a bytes (ending_of (replies output last)).status
  end_row a bytes trees output rest last encoded known none clean tail ends = inl (record {
    trees = trees;
    encoded = subst (EncodeAll a.limit bytes trees) tail encoded;
    finishes = finish_of language a.work trees output last known ends;
  })
  end_row a bytes trees output rest last encoded known none (refused refusal) tail ends = absurd ends
  end_row a bytes trees output rest last encoded known none (cut n) tail ends = inr (
    exit_status output last (value (length trees) (truncated_text n)) ends,
    record {
      trees = trees;
      rest = rest;
      n = n;
      encoded = encoded;
      pass = pass_of language a.work trees output known
          (may_come a.work a.limit trees output rest known (split_some a.limit n rest tail) none);
      tail = tail;
    },
  )

  pub end_with :
      (a : Task T E) (bytes : List ℕ) (output : List Output) (last : Reply)
      → HoldEnd (commands language) a bytes output last
      → EndWith language a bytes (ending_of (replies output last)).status
  end_with a bytes output last h =
      end_row a bytes h.ends.trees output h.rest last
      (subst (λ trees. EncodeAll a.limit bytes trees h.rest) same values.2)
      (subst (λ trees. AreOutput language a.work [] trees output) same values.3) none h.ends.end
      h.ends.tail h.ends.ends where
        values : (trees : List Tree) × (h.items ≡ items_of trees)
            × EncodeAll a.limit bytes trees h.rest × AreOutput language a.work [] trees output
        values = print_first language a bytes h.items output h.rest h.first

        same : values.0 ≡ h.ends.trees
        same = items_once values.0 h.ends.trees (sym values.1 ∙ h.ends.are)

        none : (exit : Exit) → ExitsAt language a.work a.limit h.ends.trees h.rest exit → ⊥
        none exit at =
            h.goes_on.no_exit exit (record { trees = h.ends.trees; are = h.ends.are; why = inl at })

  -- ---- a row of the table is an end

  -- If the bytes end, or truncate a value that may follow, then the command does not end the run.
  never_exits :
      (work : ValueWork T E) (limit : ℕ) (trees : List Tree) (rest : List ℕ) (end : StreamEnd) → AreBytes rest
      → IsTail limit rest end → (rest ≡ []) ⊎ MayCome language work (length trees)
      → (exit : Exit) → ExitsAt language work limit trees rest exit → ⊥
  never_exits (reports query type) limit trees rest end are_bytes tail may exit at = at
  never_exits (edits type script compat) limit trees rest end are_bytes tail may exit at =
      let s = at.encoded in
      value_or_tail one_judgement_lem limit s.0 s.1 rest at.tree end are_bytes s.3 s.2 tail
  never_exits dumps limit trees rest end are_bytes tail may exit at = at
  never_exits compares limit trees rest end are_bytes tail (inl none) exit (two, some, is) =
      some none
  never_exits compares limit trees rest end are_bytes tail (inr less) exit (two, some, is) =
      omega (arith, less, two)

  module _ (a : Task T E) (trees : List Tree) (rest : List ℕ) (are_bytes : AreBytes rest)
      (end : StreamEnd) (tail : IsTail a.limit rest end)
      (fine : (refusal : ReadRefusal) → end ≡ refused refusal → ⊥)
      (may : (rest ≡ []) ⊎ MayCome language a.work (length trees)) where
    ended :
        (bytes : List ℕ) (output : List Output) (last : Reply) → EncodeAll a.limit bytes trees rest
        → AreOutput language a.work [] trees output → EndsBy language a.work trees end last
        → HoldEnd (commands language) a bytes output last
    ended bytes output last encoded known ends = record {
      items = items_of trees;
      rest = rest;
      first = outputs_first language a bytes trees output rest encoded known;
      goes_on = goes_on language a trees rest are_bytes end tail fine
          (never_exits a.work a.limit trees rest end are_bytes tail may);
      ends = record { trees = trees; are = refl; end = end; tail = tail; ends = ends };
    }

  -- The bytes `bytes` end with a reply that has the status `status`.
  abbrev pub HasEnd : Task T E → List ℕ → Status → Type 0
  HasEnd a bytes status =
      (all : Replies) × ((ending_of all).status ≡ status)
      × HoldEnd (commands language) a bytes all.output all.last

  pub end_held :
      (a : Task T E) (bytes : List ℕ) (status : Status) → AreBytes bytes
      → EndWith language a bytes status → HasEnd a bytes status
  end_held a bytes status are_bytes (inl h) =
      let r = finish_output language a.work h.trees status h.finishes in
      let rest = encode_bytes a.limit bytes [] h.trees h.encoded are_bytes in (
        r.0,
        r.1,
        ended a h.trees [] rest clean refl (λ r e. cc e) (inl refl) bytes r.0.output r.0.last h.encoded
            r.2 r.3,
      )
  end_held a bytes status are_bytes (inr (is, h)) =
      let s = pass_output language a.work h.trees h.pass in
      let last : Reply = exits (value (length h.trees) (truncated_text h.n)) in
      let rest = encode_bytes a.limit bytes h.rest h.trees h.encoded are_bytes in (
        replies s.0 last,
        sym is,
        ended a h.trees h.rest rest (cut h.n) h.tail (λ r e. cc e)
            (inr (pass_more language a.work h.trees h.pass)) bytes s.0 last h.encoded s.1 refl,
      )

  pub have_ends : HaveEnds (commands language) (values_tables language)
  have_ends a bytes status are_bytes = (
    λ h. subst (EndWith language a bytes) h.1 (end_with a bytes h.0.output h.0.last h.2),
    end_held a bytes status are_bytes,
  )
