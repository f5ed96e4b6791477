-- Bytes contain an exit reason with a status if and only if `ExitWith` holds for the bytes and the
-- status.
use Rattle.std.proofs.Common.{◌≡◌, ◌≢◌, ◌⊎◌, ℕ, List, [], ◌∷◌, ◌++◌, length, Err, inl, inr, refl, sym, ap, ◌∙◌, subst, arith}
use Rattle.marshal_spec.specs.format.Stream.{EncodeAll}
use Rattle.marshal_spec.specs.format.Tree.{Tree}
use Rattle.cli_spec.specs.declared.status.Status.{Status}
use Rattle.cli_spec.specs.declared.status.Status.TheVariants.{No, Usage, Script, Compat}
use Rattle.cli_spec.specs.Outcome.{status_of, Output, Language, Unedited, untyped, refused_line, too_large, unedited_exit, ValueWork, reports, edits, dumps, compares, Task, task, ExitsAt}
use Rattle.cli_spec.specs.RefusalText.{refusal_text}
use Rattle.cli_spec.specs.declared.exit.Exit.{Exit}
use Rattle.cli_spec.specs.declared.exit.Exit.TheVariants.{NotTwoValues as not_two_values, Value as value}
use Rattle.run_spec.specs.runs.Commands.{HaveExit}
use Rattle.run_spec.proofs.runs.StreamLemmas.{encode_append}
use Rattle.run_spec.specs.value_commands.Tasks.{items_of, IsRefused, commands}
use Rattle.run_spec.proofs.value_commands.ValueCommandItemLemmas.{items_once}
use Rattle.run_spec.specs.exit_causes.Causes.{HaveExits}
use Rattle.run_spec.specs.exit_statuses.Tables.{values_tables}
use Rattle.run_spec.specs.exit_statuses.ValueStatuses.{AreEdited, IsNotEdited, Break, Close, HoldBreak, ExitWith}
use Rattle.run_spec.proofs.exit_statuses.ExitStatusItemLemmas.{AreOutput, outputs_first, print_first}
use Rattle.run_spec.proofs.exit_statuses.ExitStatusOutputLemmas.{pass_of, pass_output, pass_more, print_compared}

-- If bytes are two lists of values one after another, then the first list is followed by the bytes
-- of the second.
pub encode_before :
    (limit : ℕ) (bytes : List ℕ) (trees more : List Tree) (rest : List ℕ)
    → EncodeAll limit bytes (trees ++ more) rest
    → (middle : List ℕ) × EncodeAll limit bytes trees middle × EncodeAll limit middle more rest
encode_before limit bytes [] more rest h = (bytes, refl, h)
encode_before limit bytes (t ∷ trees) more rest (first, after, same, encoded, all) =
    let next = encode_before limit after trees more rest all in
    (next.0, (first, after, same, encoded, next.1), next.2)

module _ {D T E : Type 0} (language : Language D T E) where
  -- ---- an exit reason is a row of the table

  exit_row :
      (work : ValueWork T E) (limit : ℕ) (bytes : List ℕ) (trees : List Tree) (output : List Output)
      (rest : List ℕ) (exit : Exit) → EncodeAll limit bytes trees rest
      → AreOutput language work [] trees output → ExitsAt language work limit trees rest exit
      → ExitWith language (task work limit) bytes (status_of exit)
  exit_row (reports query type) limit bytes trees output rest exit encoded known at = absurd at
  exit_row dumps limit bytes trees output rest exit encoded known at = absurd at
  exit_row compares limit bytes trees output rest exit encoded known (two, some, is) =
      subst (λ s. ExitWith language (task compares limit) bytes (status_of s)) (sym is)
      (inr (inl (record {
        trees = trees;
        rest = rest;
        encoded = encoded;
        closes = two;
        more = some;
      })))
  exit_row (edits type script compat) limit bytes trees output rest exit encoded known at =
      inl (by at.why at.refused at.exits) where
        edited : AreEdited language type script compat [] trees
        edited = pass_of language (edits type script compat) trees output known tt

        held : (status : Status)
            → Break language (edits type script compat) trees at.tree status
            → HoldBreak language (task (edits type script compat) limit) bytes status
        held status breaks = record {
          trees = trees;
          tree = at.tree;
          rest = at.more;
          encoded = encode_append limit bytes rest at.more trees (at.tree ∷ []) encoded at.encoded;
          breaks = breaks;
        }

        by : (why : Unedited)
            → language.BytesOf type script compat trees at.tree (Err why)
            → exit ≡ unedited_exit (length trees) why
            → HoldBreak language (task (edits type script compat) limit) bytes (status_of exit)
        by (untyped fault) refused is =
            subst (λ s. HoldBreak language (task (edits type script compat) limit) bytes (status_of s))
            (sym is) (held No (fault, (edited, refused)))
        by (refused_line number refusal) refused is =
            subst (λ s. HoldBreak language (task (edits type script compat) limit) bytes (status_of s))
            (sym is) (held Script (number, refusal, (edited, refused)))
        by (too_large refusal) refused is =
            subst (λ s. HoldBreak language (task (edits type script compat) limit) bytes (status_of s))
            (sym is) (held Compat (refusal, (edited, refused)))

  pub exit_with :
      (a : Task T E) (bytes : List ℕ) (exit : Exit) → HaveExit (commands language) a bytes exit
      → ExitWith language a bytes (status_of exit)
  exit_with a bytes exit h = by h.at.why where
    values : (trees : List Tree) × (h.items ≡ items_of trees) × EncodeAll a.limit bytes trees h.rest
        × AreOutput language a.work [] trees h.output
    values = print_first language a bytes h.items h.output h.rest h.first

    same : values.0 ≡ h.at.trees
    same = items_once values.0 h.at.trees (sym values.1 ∙ h.at.are)

    encoded : EncodeAll a.limit bytes h.at.trees h.rest
    encoded = subst (λ trees. EncodeAll a.limit bytes trees h.rest) same values.2

    known : AreOutput language a.work [] h.at.trees h.output
    known = subst (λ trees. AreOutput language a.work [] trees h.output) same values.3

    by : ExitsAt language a.work a.limit h.at.trees h.rest exit
        ⊎ IsRefused language a (length h.at.trees) h.rest exit
        → ExitWith language a bytes (status_of exit)
    by (inl at) =
        exit_row a.work a.limit bytes h.at.trees h.output h.rest exit encoded known at
    by (inr r) = inr (inr (
      ap status_of r.is,
      record {
        trees = h.at.trees;
        rest = h.rest;
        refusal = r.refusal;
        encoded = encoded;
        pass = pass_of language a.work h.at.trees h.output known r.may;
        tail = r.tail;
      },
    ))

  -- ---- a row of the table is an exit reason

  -- The bytes contain an exit reason with the status `status`.
  abbrev pub HasExit : Task T E → List ℕ → Status → Type 0
  HasExit a bytes status =
      (exit : Exit) × (status_of exit ≡ status) × HaveExit (commands language) a bytes exit

  here :
      (a : Task T E) (bytes : List ℕ) (trees : List Tree) (output : List Output) (rest : List ℕ)
      (exit : Exit) → EncodeAll a.limit bytes trees rest → AreOutput language a.work [] trees output
      → ExitsAt language a.work a.limit trees rest exit
      ⊎ IsRefused language a (length trees) rest exit
      → HaveExit (commands language) a bytes exit
  here a bytes trees output rest exit encoded known why = record {
    items = items_of trees;
    output = output;
    rest = rest;
    first = outputs_first language a bytes trees output rest encoded known;
    at = record { trees = trees; are = refl; why = why };
  }

  break_held :
      (work : ValueWork T E) (limit : ℕ) (bytes : List ℕ) (trees : List Tree) (tree : Tree)
      (rest : List ℕ) (status : Status) → EncodeAll limit bytes (trees ++ tree ∷ []) rest
      → Break language work trees tree status → HasExit (task work limit) bytes status
  break_held (edits type script compat) limit bytes trees tree rest status encoded h =
      by status h where
        before : (middle : List ℕ) × EncodeAll limit bytes trees middle
            × EncodeAll limit middle (tree ∷ []) rest
        before = encode_before limit bytes trees (tree ∷ []) rest encoded

        held : (why : Unedited) → IsNotEdited language type script compat trees tree why
            → HaveExit (commands language) (task (edits type script compat) limit) bytes
            (unedited_exit (length trees) why)
        held why (edited, refused) =
            let s = pass_output language (edits type script compat) trees edited in
            here (task (edits type script compat) limit) bytes trees s.0 before.0
            (unedited_exit (length trees) why) before.1 s.1
            (inl (record {
              tree = tree;
              more = rest;
              encoded = before.2;
              why = why;
              refused = refused;
              exits = refl;
            }))

        by : (status : Status) → Break language (edits type script compat) trees tree status
            → HasExit (task (edits type script compat) limit) bytes status
        by No (fault, not) = (unedited_exit (length trees) (untyped fault), refl, held (untyped fault) not)
        by Script (number, refusal, not) = (
          unedited_exit (length trees) (refused_line number refusal),
          refl,
          held (refused_line number refusal) not,
        )
        by Compat (refusal, not) =
            (unedited_exit (length trees) (too_large refusal), refl, held (too_large refusal) not)
        by status h = absurd h
  break_held work limit bytes trees tree rest status encoded h = absurd h

  close_held :
      (work : ValueWork T E) (limit : ℕ) (bytes : List ℕ) (trees : List Tree) (rest : List ℕ)
      (status : Status) → EncodeAll limit bytes trees rest → Close language work trees status
      → rest ≢ [] → HasExit (task work limit) bytes status
  close_held compares limit bytes trees rest Usage encoded two some =
      let s = print_compared language [] trees (omega (arith, two)) in (
        not_two_values,
        refl,
        here (task compares limit) bytes trees s.0 rest not_two_values encoded s.1
            (inl (two, some, refl)),
      )
  close_held work limit bytes trees rest status encoded h some = absurd h

  pub exit_held :
      (a : Task T E) (bytes : List ℕ) (status : Status) → ExitWith language a bytes status
      → HasExit a bytes status
  exit_held a bytes status (inl h) =
      break_held a.work a.limit bytes h.trees h.tree h.rest status h.encoded h.breaks
  exit_held a bytes status (inr (inl h)) =
      close_held a.work a.limit bytes h.trees h.rest status h.encoded h.closes h.more
  exit_held a bytes status (inr (inr (is, h))) =
      let s = pass_output language a.work h.trees h.pass in (
        value (length h.trees) (refusal_text h.refusal),
        sym is,
        here a bytes h.trees s.0 h.rest (value (length h.trees) (refusal_text h.refusal)) h.encoded s.1
            (inr (record {
              may = pass_more language a.work h.trees h.pass;
              refusal = h.refusal;
              tail = h.tail;
              is = refl;
            })),
      )

  pub have_exits : HaveExits (commands language) (values_tables language)
  have_exits a bytes status = (
    λ h. subst (ExitWith language a bytes) h.1 (exit_with a bytes h.0 h.2),
    exit_held a bytes status,
  )
