-- A run has exactly the status that its arguments and TYPE determine, unless memory ran out or
-- writing failed.
use Rattle.std.proofs.Common.{◌≡◌, ◌≢◌, ◌⊎◌, ℕ, List, [], Bool, true, false, Ok, Err, inl, inr, refl, sym, ap, ◌∙◌, subst, append-nil}
use Rattle.std.specs.Prelude.{◌↔◌, ◌&&◌, if◌then◌else◌}
use Rattle.cli_spec.specs.declared.status.Status.{Status}
use Rattle.cli_spec.specs.declared.status.Status.TheVariants as statuses
use Rattle.cli_spec.specs.Outcome.{IsUsage, asked_type, status_of, ending_of, Output, Reply, outputs, exits, Replies, replies, stopped, Language}
use Rattle.cli_spec.specs.declared.exit.Exit.{Exit}
use Rattle.cli_spec.specs.declared.exit.Exit.TheVariants.{Usage as usage, Declarations as declarations, RequestedType as requested_type, Memory as out_of_memory}
use Rattle.base_io.specs.Sink.{Writes}
use Rattle.cmd_gen.specs.generator.Generated.{item_declarations}
use Rattle.run_spec.specs.runs.Account.{Completes, Breaks, Account}
use Rattle.run_spec.specs.runs.Call.{Call}
use Rattle.run_spec.specs.runs.Commands.{Given, OutputsAlone, Answers, RunReplies}
use Rattle.run_spec.specs.runs.Lawful.{AreLawful}
use Rattle.run_spec.specs.runs.Environment.{WritesLine, IsWriteOrMemoryError}
use Rattle.run_spec.specs.runs.RunSpec.{IsOfOutcome, RunSpec}
use Rattle.run_spec.proofs.runs.RunOnceLemmas.{replies_once}
use Rattle.run_spec.proofs.runs.RunSettledLemmas.{Goes, exit_status, some_outcome}
use Rattle.run_spec.specs.exit_statuses.Stages.{IsRefusedType}
use Rattle.cmd_gen.specs.spec.GenSpec.{GenArguments, Making, making, IsMadeLine, EndsWithLine, gen_spec}
use Rattle.cmd_gen.specs.spec.ExitStatuses.{IsKnownOf, IsKnown, Gives, AskFor, IsDue, HasWhatIsDue, WritesTheLine, AreNever}
use Rattle.cmd_gen.proofs.spec.GenSpecFindLemmas.{refused_type}

module _ {D T E : Type 0} (language : Language D T E) where
  -- If a run has replies, then the only reply is the line of the value.
  alone_outputs :
      (a : Making T) (all : Replies) → OutputsAlone (gen_spec language) a all
      → (output : Output) × (all ≡ replies [] (outputs output)) × IsMadeLine language a output
  alone_outputs a all alone = by all.last refl alone.last where
    by : (last : Reply) → all.last ≡ last → EndsWithLine language a [] [] last
        → (output : Output) × (all ≡ replies [] (outputs output)) × IsMadeLine language a output
    by (outputs output) e ends = (
      output,
      ap (λ s. replies s all.last) alone.none ∙ ap (λ l. replies [] l) e,
      ends.2,
    )
    by (exits exit) e ends = absurd ends

  module _ (arguments : List (List ℕ)) where
    -- Case: the output is the line.
    pub record IsLineOf (all : Replies) : Type 0 where
      pub asked : GenArguments
      pub ask : AskFor language arguments asked
      pub output : Output
      pub known : IsKnownOf language asked output
      pub is : all ≡ replies [] (outputs output)

    -- Case: the run ends because of its arguments or because of TYPE.
    pub record IsExitOf (all : Replies) : Type 0 where
      pub exit : Exit
      pub is : all ≡ stopped exit
      pub why : (IsUsage arguments × (exit ≡ usage))
          ⊎ ((asked : GenArguments) × AskFor language arguments asked × (status_of exit ≡ statuses.Types)
          × IsRefusedType language item_declarations (asked_type asked.type false))

    module _ (given : Given) where
      -- Each outcome is the line of the value or an exit reason.
      outcome_is :
          (all : Replies) → RunReplies (gen_spec language) arguments given all
          → IsLineOf all ⊎ IsExitOf all
      outcome_is all (found, (Err exit, (none, is), same), m) =
          let goes : Goes (gen_spec language) given all (Err exit) =
          subst (Goes (gen_spec language) given all) same m in
          inr (record { exit = exit; is = goes; why = inl (none, is) })
      outcome_is all (found, (Ok request, asks, (asked, is, (Err exit, reads, same))), m) =
          let goes : Goes (gen_spec language) given all (Err exit) =
          subst (Goes (gen_spec language) given all) same m in
          inr (record {
            exit = exit;
            is = goes;
            why =
                let refused = refused_type language asked.type exit reads in
                inr (asked, (request, asks, is), refused.0, refused.1);
          })
      outcome_is
          all (found, (Ok request, asks, (asked, is, (Ok type, (Err s, why, other), same))), m) =
          absurd (cc other)
      outcome_is
          all (found, (Ok request, asks, (asked, is, (Ok type, (Ok decls, are, is_type), same))), m) =
          by (subst (Goes (gen_spec language) given all) same m) where
            by : Answers (gen_spec language) (making asked type) given.input all
                → IsLineOf all ⊎ IsExitOf all
            by (inl (reads, s)) = absurd reads
            by (inr alone) =
                let one = alone_outputs (making asked type) all alone in
                inl (record {
                  asked = asked;
                  ask = (request, asks, is);
                  output = one.0;
                  known = record {
                    decls = decls;
                    are_declared = are;
                    type = type;
                    is_type = is_type;
                    is_line = one.2;
                  };
                  is = one.1;
                })

      -- If there is an output for the value, then the output determines the status.
      line_gives :
          (asked : GenArguments) (ok : Bool) → IsKnown language asked ok
          → Gives language asked (if ok && true then statuses.AllOk else statuses.No)
      line_gives asked true known = known
      line_gives asked false known = known

      status_due :
          (all : Replies) → IsLineOf all ⊎ IsExitOf all
          → IsDue language arguments (ending_of all).status
      status_due all (inl l) =
          subst (λ all. IsDue language arguments (ending_of all).status) (sym l.is)
          (inr (l.asked, l.ask, line_gives l.asked l.output.ok (l.output, l.known, refl)))
      status_due all (inr s) =
          subst (λ all. IsDue language arguments (ending_of all).status) (sym s.is) (by s.why) where
            by : (IsUsage arguments × (s.exit ≡ usage))
                ⊎ ((asked : GenArguments) × AskFor language arguments asked
                × (status_of s.exit ≡ statuses.Types)
                × IsRefusedType language item_declarations (asked_type asked.type false))
                → IsDue language arguments (status_of s.exit)
            by (inl (none, is)) = inl (none, ap (λ s. status_of s) is)
            by (inr (asked, ask, is, refused)) =
                subst (IsDue language arguments) (sym is) (inr (asked, ask, refused))

      -- There is an outcome with the given status.
      abbrev HasOutcome : Status → Type 0
      HasOutcome status =
          (all : Replies) × RunReplies (gen_spec language) arguments given all
          × ((ending_of all).status ≡ status)

      output_outcome :
          (asked : GenArguments) → AskFor language arguments asked → (output : Output)
          → IsKnownOf language asked output
          → HasOutcome (if output.ok && true then statuses.AllOk else statuses.No)
      output_outcome asked (request, asks, is) output known = (
        replies [] (outputs output),
        (
          Ok (making asked known.type),
          (
            Ok request,
            asks,
            (asked, is, (Ok known.type, (Ok known.decls, known.are_declared, known.is_type), refl)),
          ),
          inr (record { unread = λ h. h; none = refl; last = (refl, refl, known.is_line) }),
        ),
        refl,
      )

      exit_outcome :
          (asked : GenArguments) → AskFor language arguments asked
          → IsRefusedType language item_declarations (asked_type asked.type false) → HasOutcome statuses.Types
      exit_outcome asked (request, asks, is) (inl (refusal, refuses)) = (
        stopped (declarations refusal),
        (
          Err (declarations refusal),
          (
            Ok request,
            asks,
            (
              asked,
              is,
              (
                Err (declarations refusal),
                (Err (declarations refusal), (refusal, refuses, refl), refl),
                refl,
              ),
            ),
          ),
          refl,
        ),
        refl,
      )
      exit_outcome asked (request, asks, is) (inr (d, refusal, reads, refuses)) = (
        stopped (requested_type refusal),
        (
          Err (requested_type refusal),
          (
            Ok request,
            asks,
            (
              asked,
              is,
              (Err (requested_type refusal), (Ok d, reads, (refusal, refuses, refl)), refl),
            ),
          ),
          refl,
        ),
        refl,
      )

      ok_outcome :
          (ok : Bool) (asked : GenArguments) → AskFor language arguments asked → IsKnown language asked ok
          → HasOutcome (if ok && true then statuses.AllOk else statuses.No)
      ok_outcome ok asked ask (output, known, is) =
          subst (λ (w : Bool). HasOutcome (if w && true then statuses.AllOk else statuses.No)) is
          (output_outcome asked ask output known)

      asked_outcome :
          (status : Status) (asked : GenArguments) → AskFor language arguments asked
          → Gives language asked status → HasOutcome status
      asked_outcome statuses.AllOk asked ask h = ok_outcome true asked ask h
      asked_outcome statuses.No asked ask h = ok_outcome false asked ask h
      asked_outcome statuses.Types asked ask h = exit_outcome asked ask h
      asked_outcome status asked ask h = absurd h

      due_outcome : (status : Status) → IsDue language arguments status → HasOutcome status
      due_outcome status (inl (none, is)) = (
        stopped usage,
        (Err usage, (Err usage, (none, refl), refl), refl),
        sym is,
      )
      due_outcome status (inr (asked, ask, gives)) = asked_outcome status asked ask gives

    module _ (call : Call) (lawful : AreLawful (gen_spec language)) where
      pub what_is_due :
          RunSpec (gen_spec language) arguments call → HasWhatIsDue language arguments call
      what_is_due p = by (some_outcome (gen_spec language) arguments call p.account) where
        exact : IsOfOutcome (gen_spec language) arguments call call.status → (status : Status)
            → (call.status ≡ status) ↔ IsDue language arguments status
        exact o status = (forward, back) where
          forward : call.status ≡ status → IsDue language arguments status
          forward e =
              subst (IsDue language arguments) (sym o.is ∙ e)
              (status_due o.given o.all (outcome_is o.given o.all o.outcome))

          back : IsDue language arguments status → call.status ≡ status
          back due =
              let other = due_outcome o.given status due in
              let same = replies_once (gen_spec language) lawful arguments o.given
              o.may_be.input.are_bytes o.all other.0 o.outcome other.1 in
              o.is ∙ (ap (λ (all : Replies). (ending_of all).status) same ∙ other.2)

        by : IsOfOutcome (gen_spec language) arguments call call.status ⊎ IsWriteOrMemoryError call.status
            → HasWhatIsDue language arguments call
        by (inl o) = inr (exact o)
        by (inr write_or_memory_error) = inl write_or_memory_error

    module _ (call : Call) where
      -- If a status is neither due nor caused by the environment, then the status does not occur.
      not_due :
          HasWhatIsDue language arguments call → (status : Status) → (IsWriteOrMemoryError status → ⊥)
          → (IsDue language arguments status → ⊥) → call.status ≢ status
      not_due (inl write_or_memory_error) status output none e = output (subst IsWriteOrMemoryError e write_or_memory_error)
      not_due (inr exact) status output none e = none ((exact status).0 e)

      pub never : HasWhatIsDue language arguments call → AreNever call
      never has = record {
        value = not_due has statuses.Value output4 due4;
        script = not_due has statuses.Script output5 due5;
        read_fault = not_due has statuses.ReadFault output6 due6;
        open_fault = not_due has statuses.OpenFault output8 due8;
        too_long = not_due has statuses.TooLong output10 due10;
        compat = not_due has statuses.Compat output11 due11;
        certificate = not_due has statuses.Certificate output12 due12;
      } where
        output4 : IsWriteOrMemoryError statuses.Value → ⊥
        output4 (inl e) = cc e
        output4 (inr e) = cc e

        due4 : IsDue language arguments statuses.Value → ⊥
        due4 (inl h) = let e = h.1 in cc e
        due4 (inr h) = h.2

        output5 : IsWriteOrMemoryError statuses.Script → ⊥
        output5 (inl e) = cc e
        output5 (inr e) = cc e

        due5 : IsDue language arguments statuses.Script → ⊥
        due5 (inl h) = let e = h.1 in cc e
        due5 (inr h) = h.2

        output6 : IsWriteOrMemoryError statuses.ReadFault → ⊥
        output6 (inl e) = cc e
        output6 (inr e) = cc e

        due6 : IsDue language arguments statuses.ReadFault → ⊥
        due6 (inl h) = let e = h.1 in cc e
        due6 (inr h) = h.2

        output8 : IsWriteOrMemoryError statuses.OpenFault → ⊥
        output8 (inl e) = cc e
        output8 (inr e) = cc e

        due8 : IsDue language arguments statuses.OpenFault → ⊥
        due8 (inl h) = let e = h.1 in cc e
        due8 (inr h) = h.2

        output10 : IsWriteOrMemoryError statuses.TooLong → ⊥
        output10 (inl e) = cc e
        output10 (inr e) = cc e

        due10 : IsDue language arguments statuses.TooLong → ⊥
        due10 (inl h) = let e = h.1 in cc e
        due10 (inr h) = h.2

        output11 : IsWriteOrMemoryError statuses.Compat → ⊥
        output11 (inl e) = cc e
        output11 (inr e) = cc e

        due11 : IsDue language arguments statuses.Compat → ⊥
        due11 (inl h) = let e = h.1 in cc e
        due11 (inr h) = h.2

        output12 : IsWriteOrMemoryError statuses.Certificate → ⊥
        output12 (inl e) = cc e
        output12 (inr e) = cc e

        due12 : IsDue language arguments statuses.Certificate → ⊥
        due12 (inl h) = let e = h.1 in cc e
        due12 (inr h) = h.2

      -- ---- the line of the value

      abbrev IsOkOrNo : Status → Type 0
      IsOkOrNo status = (status ≡ statuses.AllOk) ⊎ (status ≡ statuses.No)

      memory_not : IsOkOrNo statuses.Memory → ⊥
      memory_not (inl e) = cc e
      memory_not (inr e) = cc e

      fault_not : IsOkOrNo statuses.WriteFault → ⊥
      fault_not (inl e) = cc e
      fault_not (inr e) = cc e

      usage_not : IsOkOrNo statuses.Usage → ⊥
      usage_not (inl e) = cc e
      usage_not (inr e) = cc e

      types_not : IsOkOrNo statuses.Types → ⊥
      types_not (inl e) = cc e
      types_not (inr e) = cc e

      abbrev IsWritten : Type 0
      IsWritten = (asked : GenArguments) × AskFor language arguments asked × (output : Output)
          × IsKnownOf language asked output × Writes call.out output.text

      write_by :
          (all : Replies) → IsLineOf all ⊎ IsExitOf all → IsOkOrNo (ending_of all).status
          → Writes call.out (ending_of all).out → IsWritten
      write_by all (inl l) ok out = (
        l.asked,
        l.ask,
        l.output,
        l.known,
        subst (λ (b : List ℕ). Writes call.out b) (append-nil l.output.text)
            (subst (λ (all : Replies). Writes call.out (ending_of all).out) l.is out),
      )
      write_by all (inr s) ok out =
          by (subst (λ (all : Replies). IsOkOrNo (ending_of all).status) s.is ok) s.why where
            by : IsOkOrNo (status_of s.exit)
                → (IsUsage arguments × (s.exit ≡ usage))
                ⊎ ((asked : GenArguments) × AskFor language arguments asked
                × (status_of s.exit ≡ statuses.Types)
                × IsRefusedType language item_declarations (asked_type asked.type false)) → IsWritten
            by ok (inl (none, is)) =
                absurd (usage_not (subst (λ s. IsOkOrNo (status_of s)) is ok))
            by ok (inr (asked, ask, is, refused)) = absurd (types_not (subst IsOkOrNo is ok))

      pub writes_line : Account (gen_spec language) arguments call → WritesTheLine language arguments call
      writes_line a ok = by a.ends where
        ended : (c : Completes (gen_spec language) arguments a.given a.output call)
            → call.status ≡ (ending_of (replies a.output c.last)).status
            → RunReplies (gen_spec language) arguments a.given (replies a.output c.last)
            ⊎ (c.last ≡ exits out_of_memory) → IsWritten
        ended c is (inl outcome) =
            write_by (replies a.output c.last)
            (outcome_is a.given (replies a.output c.last) outcome) (subst IsOkOrNo is ok) c.out
        ended c is (inr memory) =
            let same = is ∙ exit_status (replies a.output c.last) out_of_memory memory in
            absurd (memory_not (subst IsOkOrNo same ok))

        line : (c : Completes (gen_spec language) arguments a.given a.output call)
            → WritesLine call.err call.status (ending_of (replies a.output c.last)) → IsWritten
        line c (inl (write, is)) = ended c is c.may_end
        line c (inr (part, is)) = absurd (fault_not (subst IsOkOrNo is ok))

        by : Completes (gen_spec language) arguments a.given a.output call
            ⊎ Breaks (gen_spec language) arguments a.given a.output call → IsWritten
        by (inl c) = line c c.line
        by (inr b) = absurd (fault_not (subst IsOkOrNo b.status ok))
