-- A known input that contains an exit reason, ends with a reply, is not read, or is too long.
use Rattle.std.proofs.Common.{◌≡◌, ◌⊎◌, ℕ, List, inl, inr, ap}
use Rattle.cli_spec.specs.declared.status.Status.TheVariants as statuses
use Rattle.cli_spec.specs.Outcome.{status_of, ending_of, Replies}
use Rattle.run_spec.specs.runs.Account.{MayBe}
use Rattle.run_spec.specs.runs.Call.{Call}
use Rattle.run_spec.specs.runs.RunCauses.{IfAlone, IfInputTooLong}
use Rattle.run_spec.specs.runs.Commands.{Given, Commands, Answers}
use Rattle.run_spec.specs.runs.Given.{ReportsBytes}
use Rattle.run_spec.specs.runs.Lawful.{AreLawfulAt, AreLawful}
use Rattle.run_spec.specs.runs.Environment.{IsWriteOrMemoryError, IsEnvironment}
use Rattle.run_spec.specs.runs.RunSpec.{IfExit, IfEnd}
use Rattle.run_spec.proofs.runs.RunOnceLemmas.{alone_once}
use Rattle.run_spec.proofs.runs.RunSettledLemmas.{IsStatus, settled}
use Rattle.run_spec.proofs.runs.RunKnownLemmas.{IsFaultOrLong, short_faults, long_faults, either, comes_of, exit_comes, end_comes, long_comes}

module _ {A : Type 0} (c : Commands A) (arguments : List (List ℕ)) (call : Call)
    (lawful : AreLawful c) (status : IsStatus c arguments call) where
  pub if_exit : ReportsBytes call.input → IfExit c arguments call
  if_exit reports a bytes exit known holds =
      either c arguments call lawful
      (settled c arguments call status (λ s. (s ≡ status_of exit) ⊎ IsEnvironment s)
      (comes_of c arguments call lawful (λ s. (s ≡ status_of exit) ⊎ IsEnvironment s)
      known.files known.map a known.prepared
      (λ name other fault.
      inr (short_faults known.files known.short name other fault)) go)) where
        go : (given : Given) → MayBe c arguments call given → AreLawfulAt c a → (all : Replies)
            → Answers c a given.input all
            → ((ending_of all).status ≡ status_of exit) ⊎ IsEnvironment (ending_of all).status
        go given may_be law all (inl (reads, s)) =
            exit_comes c arguments call lawful reports bytes known.input given.input may_be.input a law all s
            exit holds
        go given may_be law all (inr s) = absurd (s.unread known.reads)

  pub if_end : ReportsBytes call.input → IfEnd c arguments call
  if_end reports a bytes end known short holds =
      either c arguments call lawful
      (settled c arguments call status (λ s. (s ≡ (ending_of end).status) ⊎ IsEnvironment s)
      (comes_of c arguments call lawful (λ s. (s ≡ (ending_of end).status) ⊎ IsEnvironment s)
      known.files known.map a known.prepared
      (λ name other fault.
      inr (short_faults known.files known.short name other fault)) go)) where
        go : (given : Given) → MayBe c arguments call given → AreLawfulAt c a → (all : Replies)
            → Answers c a given.input all
            → ((ending_of all).status ≡ (ending_of end).status) ⊎ IsEnvironment (ending_of all).status
        go given may_be law all (inl (reads, s)) =
            end_comes c arguments call lawful reports bytes known.input given.input may_be.input a law all s
            end short holds
        go given may_be law all (inr s) = absurd (s.unread known.reads)

  pub if_alone : IfAlone c arguments call
  if_alone files a end map short prepared alone =
      either c arguments call lawful
      (settled c arguments call status (λ s. (s ≡ (ending_of end).status) ⊎ IsEnvironment s)
      (comes_of c arguments call lawful (λ s. (s ≡ (ending_of end).status) ⊎ IsEnvironment s)
      files map a prepared
      (λ name other fault.
      inr (short_faults files short name other fault)) go)) where
        go : (given : Given) → MayBe c arguments call given → AreLawfulAt c a → (all : Replies)
            → Answers c a given.input all
            → ((ending_of all).status ≡ (ending_of end).status) ⊎ IsEnvironment (ending_of all).status
        go given may_be law all (inl (reads, s)) = absurd (alone.unread reads)
        go given may_be law all (inr s) =
            inl (ap (λ all. (ending_of all).status) (alone_once c a law all end s alone))

  pub if_input_too_long : ReportsBytes call.input → IfInputTooLong c arguments call
  if_input_too_long reports files a bytes output map prepared reads known many holds =
      turned (settled c arguments call status IsFaultOrLong
      (comes_of c arguments call lawful IsFaultOrLong files map a prepared
      (long_faults files) go)) where
        go : (given : Given) → MayBe c arguments call given → AreLawfulAt c a → (all : Replies)
            → Answers c a given.input all → IsFaultOrLong (ending_of all).status
        go given may_be law all (inl (unused, s)) =
            long_comes c arguments call lawful reports bytes known given.input may_be.input a law all s
            output many holds
        go given may_be law all (inr s) = absurd (s.unread reads)

        turned : IsFaultOrLong call.status ⊎ IsWriteOrMemoryError call.status
            → (call.status ≡ statuses.TooLong) ⊎ IsEnvironment call.status
        turned (inl (inl out)) = inr out
        turned (inl (inr long)) = inl long
        turned (inr write_or_memory_error) = inr (inr (inr write_or_memory_error))
