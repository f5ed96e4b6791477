-- Unless memory runs out or a write fails, a run writes the whole answer to what the calls on the
-- environment provided. If the contents of the environment are known, the answer is the outcome of
-- the contents.
use Rattle.std.proofs.Common.{◌≡◌, ◌⊎◌, ℕ, List, inl, inr, ap, ◌∙◌, subst}
use Rattle.cli_spec.specs.Outcome.{Taken, whole, ending_of, exits, replies}
use Rattle.cli_spec.specs.declared.exit.Exit.TheVariants.{Memory as out_of_memory}
use Rattle.base_io.specs.History.{bytes_of}
use Rattle.run_spec.specs.runs.Account.{MayBe, Completes, Breaks, Account}
use Rattle.run_spec.specs.runs.Answered.{IsAnswered, AnswersGiven, AnswersWhole}
use Rattle.run_spec.specs.runs.Call.{Call}
use Rattle.run_spec.specs.runs.Commands.{Commands, RunReplies}
use Rattle.run_spec.specs.runs.Lawful.{AreLawful}
use Rattle.run_spec.specs.runs.Environment.{WritesLine}
use Rattle.run_spec.specs.runs.RunSpec.{Headline}
use Rattle.run_spec.proofs.runs.CallLemmas.{took_whole}
use Rattle.run_spec.proofs.runs.RunOnceLemmas.{replies_once}
use Rattle.run_spec.proofs.runs.OutcomeLemmas.{outcome_known}
use Rattle.run_spec.proofs.runs.RunWriteLemmas.{rose_after}
use Rattle.run_spec.proofs.runs.RunSettledLemmas.{exit_status}

module _ {A : Type 0} (c : Commands A) (lawful : AreLawful c) (arguments : List (List ℕ)) (call : Call) where
  pub answers_given : Account c arguments call → AnswersGiven c arguments call
  answers_given a unbroken = (a.given, a.may_be, go a.ends) where
    go : Completes c arguments a.given a.output call ⊎ Breaks c arguments a.given a.output call
        → IsAnswered c arguments call a.given
    go (inr b) =
        absurd (unbroken.out (rose_after call.out.before.faults b.out.0.faults call.out.after.faults
        b.out.1.cause b.out.2.cause))
    go (inl e) = write e.line where
      write : WritesLine call.err call.status (ending_of (replies a.output e.last))
          → IsAnswered c arguments call a.given
      write (inr part) = absurd (unbroken.err part.0.cause.rose)
      write (inl line) = may e.may_end where
        may : RunReplies c arguments a.given (replies a.output e.last) ⊎ (e.last ≡ exits out_of_memory)
            → IsAnswered c arguments call a.given
        may (inl r) = record {
          all = replies a.output e.last;
          outcome = r;
          only = λ other is.
              replies_once c lawful arguments a.given a.may_be.input.are_bytes (replies a.output e.last) other r is;
          out = e.out;
          err = line.0;
          status = line.1;
        }
        may (inr memory) =
            absurd (unbroken.memory
            (line.1 ∙ exit_status (replies a.output e.last) out_of_memory memory))

  pub answers_whole : Account c arguments call → AnswersWhole c arguments call
  answers_whole a unbroken new are ended =
      let h = answers_given a unbroken in
      let same : h.0.input ≡ whole (bytes_of new) =
      took_whole call.input.before.calls call.input.after.calls new h.0.input h.1.input.called are ended in
      let is : h.0 ≡ record { files = h.0.files; input = whole (bytes_of new) } =
      ap (λ (i : Taken). record { files = h.0.files; input = i }) same in (
        h.0.files,
        subst (λ g. MayBe c arguments call g) is h.1,
        subst (λ g. IsAnswered c arguments call g) is h.2,
      )

  module _ (answers : AnswersGiven c arguments call) where
    -- A fault-free run over known contents has the outcome of the contents.
    pub headline : Headline c arguments call
    headline input files honest some =
        let g = answers (record { memory = some; out = honest.out; err = honest.err }) in
        record {
          all = g.2.all;
          outcome = outcome_known c arguments call lawful input files honest.ok_read g.0 g.1 g.2.all g.2.outcome;
          out = g.2.out;
          err = g.2.err;
          status = g.2.status;
        }
