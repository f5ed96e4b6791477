-- The meaning of a status, from the outcome that has it.
use Rattle.std.proofs.Common.{◌≡◌, ◌≢◌, ℕ, List, [], append-nil, Option, Some, None, IfSome, Result, Ok, Err, inl, inr, refl, sym, ap, ◌∙◌, subst}
use Rattle.cli_spec.specs.declared.status.Status.{Status}
use Rattle.cli_spec.specs.declared.status.Status.TheVariants as statuses
use Rattle.cli_spec.specs.Outcome.{ReadingEnd, at_end, at_fault, at_length, unasked, Taken, status_of, ending_of, exits, Replies}
use Rattle.cli_spec.specs.declared.exit.Exit.{Exit}
use Rattle.cli_spec.specs.declared.exit.Exit.TheVariants.{Usage as usage, ReadFault as read_fault, TooLong as too_long}
use Rattle.run_spec.specs.runs.Account.{MayBe}
use Rattle.run_spec.specs.runs.Call.{Call}
use Rattle.run_spec.specs.runs.Commands.{Given, Commands, GoesOn, HaveExit, IsLast, Closes, OutputsAll, Answers, RunReplies}
use Rattle.run_spec.specs.runs.Given.{TakesFrom, IsInputOf, Gathers}
use Rattle.run_spec.specs.runs.Lawful.{AreLawfulAt, AreLawful}
use Rattle.run_spec.specs.runs.Environment.{IsWriteOrMemoryError}
use Rattle.run_spec.specs.runs.RunSpec.{HoldEnd, Gives, Means, OnlyMeant}
use Rattle.run_spec.proofs.runs.CallLemmas.{input_of}
use Rattle.run_spec.proofs.runs.RunFileLemmas.{all_of}
use Rattle.run_spec.proofs.runs.HoldLemmas.{hold_stays}
use Rattle.run_spec.proofs.runs.RunSettledLemmas.{Goes, IsStatus, exit_status}

module _ (call : Call) where
  -- `Holds` is true of the whole input if the input is known, or of some input if the input is
  -- unknown.
  abbrev IsOfInput : (List ℕ → Type 0) → Type 0
  IsOfInput Holds =
      (input : List ℕ) × IfSome call.input.before.bytes (λ bytes. bytes ≡ input)
      × IsInputOf call.input input × Holds input

  of_input :
      (taken : Taken) → Gathers call.input taken → (Holds : List ℕ → Type 0) → Holds taken.bytes
      → ((bytes rest : List ℕ) → TakesFrom bytes taken rest → Holds bytes) → IsOfInput Holds
  of_input taken took Holds here left = go call.input.before.bytes took.known where
    go : (o : Option (List ℕ))
        → IfSome o (λ bytes. (rest : List ℕ) × TakesFrom bytes taken rest
        × (call.input.after.bytes ≡ Some rest))
        → (input : List ℕ) × IfSome o (λ bytes. bytes ≡ input) × IsInputOf call.input input × Holds input
    go None known = (
      taken.bytes,
      tt,
      input_of call.input taken took.called taken.bytes [] (sym (append-nil taken.bytes)) (λ e. refl),
      here,
    )
    go (Some bytes) known = (
      bytes,
      refl,
      input_of call.input taken took.called bytes known.0 known.1.prefix known.1.ends,
      left bytes known.0 known.1,
    )

  module _ {A : Type 0} (c : Commands A) (a : A) (law : AreLawfulAt c a) (taken : Taken)
      (took : Gathers call.input taken) (all : Replies) where
    -- The input determines the status of the replies.
    abbrev IsGiven : Type 0
    IsGiven = IsOfInput (λ input. Gives c a input (ending_of all).status)

    module _ (not_read : (ending_of all).status ≢ statuses.ReadFault)
        (not_long : (ending_of all).status ≢ statuses.TooLong) where
      read_given : c.Reads a → OutputsAll c a taken all → IsGiven
      read_given reads s = go s.last where
        exit_given : (exit : Exit) → c.Exits a s.items s.rest exit → all.last ≡ exits exit → IsGiven
        exit_given exit at is =
            let here : HaveExit c a taken.bytes exit =
            record { items = s.items; output = all.output; rest = s.rest; first = s.first; at = at } in
            of_input taken took (λ input. Gives c a input (ending_of all).status)
            (inl (reads, exit, sym (exit_status all exit is), here))
            (λ bytes rest t. inl (
              reads,
              exit,
              sym (exit_status all exit is),
              subst (λ b. HaveExit c a b exit) (sym t.prefix)
                  (hold_stays c a law taken.bytes rest exit here),
            ))

        closed : (u : ReadingEnd) → taken.until ≡ u → GoesOn c a s.items s.rest
            → Closes c a s.items s.rest u all.last → IsGiven
        closed at_end e on closes =
            let end : HoldEnd c a taken.bytes all.output all.last =
            record { items = s.items; rest = s.rest; first = s.first; goes_on = on; ends = closes } in
            of_input taken took (λ input. Gives c a input (ending_of all).status)
            (inr (all, refl, inl (reads, end)))
            (λ bytes rest t. inr (
              all,
              refl,
              inl (
                reads,
                subst (λ b. HoldEnd c a b all.output all.last) (sym (all_of bytes taken rest t e)) end,
              ),
            ))
        closed at_fault e on closes = absurd (not_read (exit_status all read_fault closes))
        closed at_length e on closes = absurd (not_long (exit_status all too_long closes))
        closed unasked e on closes = absurd closes

        go : IsLast c a s.items s.rest taken.until all.last → IsGiven
        go (inl (exit, at, fine, is)) = exit_given exit at is
        go (inr (on, closes)) = closed taken.until refl on closes

      given_by : Answers c a taken all → IsGiven
      given_by (inl (reads, s)) = read_given reads s
      given_by (inr alone) =
          of_input taken took (λ input. Gives c a input (ending_of all).status)
          (inr (all, refl, inr alone)) (λ bytes rest t. inr (all, refl, inr alone))

module _ {A : Type 0} (c : Commands A) (arguments : List (List ℕ)) (call : Call)
    (lawful : AreLawful c) where
  means_of :
      (given : Given) → MayBe c arguments call given → (all : Replies) → RunReplies c arguments given all
      → (ending_of all).status ≢ statuses.ReadFault → (ending_of all).status ≢ statuses.TooLong
      → Means c arguments call (ending_of all).status
  means_of given may_be all (found, (Ok request, asks, finds), m) not_read not_long =
      by found finds m where
        by : (found : Result A Exit) → c.Finds request given.files found → Goes c given all found
            → Means c arguments call (ending_of all).status
        by (Err exit) finds m = inr (inl (record {
          found = given.files;
          files = may_be.files;
          request = request;
          asks = asks;
          exit = exit;
          finds = finds;
          is = sym (ap (λ all. (ending_of all).status) m);
        }))
        by (Ok a) finds answers =
            let h = given_by call c a (lawful.at a (request, given.files, finds)) given.input may_be.input
            all not_read not_long answers in
            inr (inr (given.files, may_be.files, a, (Ok request, asks, finds), h.0, h.1, h.2, h.3))
  means_of given may_be all (Ok a, (Err exit, reads, same), m) not_read not_long = absurd (cc same)
  means_of given may_be all (Err other, (Err exit, (none, is), same), m) not_read not_long =
      let e : other ≡ usage = (let k : other ≡ exit = cc same in k ∙ is) in
      inl (none, ap (λ all. (ending_of all).status) m ∙ ap status_of e)

  pub only_meant : IsStatus c arguments call → (status : Status) → OnlyMeant c arguments call status
  only_meant (inr write_or_memory_error) status not_read not_long not_unsaid e =
      absurd (not_unsaid (subst IsWriteOrMemoryError e write_or_memory_error))
  only_meant (inl o) status not_read not_long not_unsaid e =
      let same : (ending_of o.all).status ≡ status = sym o.is ∙ e in
      subst (Means c arguments call) same (means_of o.given o.may_be o.all o.outcome
      (λ k. not_read (sym same ∙ k)) (λ k. not_long (sym same ∙ k)))
