-- If a run ended with status 0 or 1, then the environment may have provided (`MayBe`) some contents
-- of input and files. An outcome of these contents has the output and the status of the run.
use Rattle.std.proofs.Common.{◌≡◌, ◌⊎◌, ℕ, List, ◌++◌, Some, inl, inr, refl, sym, ap, ◌∙◌, append-nil}
use Rattle.std.proofs.lemmas.List.{append_cancel_left}
use Rattle.cli_spec.specs.declared.status.Status.{Status}
use Rattle.cli_spec.specs.declared.status.Status.TheVariants as statuses
use Rattle.cli_spec.specs.Outcome.{Taken, at_end, whole, opened, ending_of, exits, Replies, replies}
use Rattle.cli_spec.specs.declared.exit.Exit.TheVariants.{Memory as out_of_memory}
use Rattle.base_io.specs.Sink.{Writes}
use Rattle.run_spec.specs.runs.Account.{MayBe, Completes, Breaks, Account}
use Rattle.run_spec.specs.runs.Call.{Call, HasWritten}
use Rattle.run_spec.specs.runs.Commands.{Given, Commands, RunReplies}
use Rattle.run_spec.specs.runs.Given.{TakesFrom, IsFoundOf}
use Rattle.run_spec.specs.runs.Environment.{WritesLine}
use Rattle.run_spec.proofs.runs.RunSettledLemmas.{exit_status}

-- The status is 0 or 1, and nothing ended the run early.
abbrev pub IsEnd : Status → Type 0
IsEnd status = (status ≡ statuses.AllOk) ⊎ (status ≡ statuses.No)

pub end_not_write_fault : (status : Status) → IsEnd status → status ≡ statuses.WriteFault → ⊥
end_not_write_fault status (inl e) is =
    let no : statuses.AllOk ≡ statuses.WriteFault = sym e ∙ is in cc no
end_not_write_fault status (inr e) is =
    let no : statuses.No ≡ statuses.WriteFault = sym e ∙ is in cc no

pub end_not_memory : (status : Status) → IsEnd status → status ≡ statuses.Memory → ⊥
end_not_memory status (inl e) is =
    let no : statuses.AllOk ≡ statuses.Memory = sym e ∙ is in cc no
end_not_memory status (inr e) is =
    let no : statuses.No ≡ statuses.Memory = sym e ∙ is in cc no

module _ {A : Type 0} (c : Commands A) (arguments : List (List ℕ)) (call : Call) where
  pub record HasEnded : Type 0 where
    pub given : Given
    pub may_be : MayBe c arguments call given
    pub all : Replies
    pub outcome : RunReplies c arguments given all
    pub status : call.status ≡ (ending_of all).status
    pub out : Writes call.out (ending_of all).out

  pub has_ended : Account c arguments call → IsEnd call.status → HasEnded
  has_ended account end = by account.ends where
    by : Completes c arguments account.given account.output call
        ⊎ Breaks c arguments account.given account.output call → HasEnded
    by (inl h) = at h.line h.may_end where
      at : WritesLine call.err call.status (ending_of (replies account.output h.last))
          → RunReplies c arguments account.given (replies account.output h.last)
          ⊎ (h.last ≡ exits out_of_memory)
          → HasEnded
      at (inl (err, is)) (inl run) = record {
        given = account.given;
        may_be = account.may_be;
        all = replies account.output h.last;
        outcome = run;
        status = is;
        out = h.out;
      }
      at (inl (err, is)) (inr memory) =
          absurd (end_not_memory call.status end
          (is ∙ exit_status (replies account.output h.last) out_of_memory memory))
      at (inr (part, is)) run = absurd (end_not_write_fault call.status end is)
    by (inr h) = absurd (end_not_write_fault call.status end h.status)

-- ---- what the run read and wrote

-- If the contents of a file are known, then the bytes read are these contents.
pub held :
    (contents other : List ℕ) → IsFoundOf (Some contents) (opened (whole other))
    → contents ≡ other
held contents other (rest, takes) =
    takes.prefix ∙ (ap (λ rest. other ++ rest) (takes.ends refl) ∙ append-nil other)

-- If the end of the input was reached, then the whole input was read.
pub taken_whole : (taken : Taken) (bytes rest : List ℕ) → taken.until ≡ at_end
    → TakesFrom bytes taken rest → bytes ≡ taken.bytes
taken_whole taken bytes rest ended takes =
    takes.prefix ∙ (ap (λ rest. taken.bytes ++ rest) (takes.ends ended) ∙ append-nil taken.bytes)

-- If `out` is known and a run wrote two texts, then the texts are equal.
pub write_once : (call : Call) (text write : List ℕ) → HasWritten call text → Writes call.out write
    → text ≡ write
write_once call text write has writes =
    let after : call.out.after.bytes ≡ Some (has.before ++ write) = rw has.had at writes.appended in
    let same : Some (has.before ++ text) ≡ Some (has.before ++ write) = sym has.has ∙ after in
    append_cancel_left has.before text write (cc same)
