-- What a run writes, compared with what the calls on the input and the files provided. Nothing
-- needs to be known before the run.
use Rattle.std.specs.Prelude.{ℕ, ◌≡◌, ◌≢◌, List, ◌++◌}
use Rattle.cli_spec.specs.declared.status.Status.TheVariants.{Memory}
use Rattle.cli_spec.specs.Outcome.{whole, ending_of, Replies}
use Rattle.base_io.specs.IoFaults.{RoseOrLast}
use Rattle.base_io.specs.History.{Event, bytes_of, HasEnded}
use Rattle.base_io.specs.Sink.{Writes}
use Rattle.run_spec.specs.runs.Account.{MayBe}
use Rattle.run_spec.specs.runs.Call.{Call}
use Rattle.run_spec.specs.runs.Commands.{Fetches, Given, Commands, RunReplies}

-- The status is not `Memory`, and no count of failed writes rose or is at its greatest value.
pub record IsUnbroken (call : Call) : Type 0 where
  pub memory : call.status ≢ Memory
  pub out : ¬ RoseOrLast call.out.before.faults call.out.after.faults
  pub err : ¬ RoseOrLast call.err.before.faults call.err.after.faults

module _ {A : Type 0} (c : Commands A) (arguments : List (List ℕ)) where
  -- `out`, `err` and the status are the whole answer to what was provided. What was provided has
  -- only one answer.
  pub record IsAnswered (call : Call) (given : Given) : Type 0 where
    pub all : Replies
    pub outcome : RunReplies c arguments given all
    pub only : (other : Replies) → RunReplies c arguments given other → all ≡ other
    pub out : Writes call.out (ending_of all).out
    pub err : Writes call.err (ending_of all).err
    pub status : call.status ≡ (ending_of all).status

  -- Unless memory ran out or a write failed, the run wrote the whole answer to what the calls
  -- provided.
  abbrev pub AnswersGiven : Call → Type 0
  AnswersGiven call = IsUnbroken call
      → (given : Given) × MayBe c arguments call given × IsAnswered call given

  -- If a call on the input found the end, then the run wrote the whole answer to the whole input.
  -- The whole input consists of the bytes of all calls.
  abbrev pub AnswersWhole : Call → Type 0
  AnswersWhole call = IsUnbroken call → (new : List Event)
      → call.input.after.calls ≡ call.input.before.calls ++ new → HasEnded new
      → (files : Fetches)
      × MayBe c arguments call (record { files = files; input = whole (bytes_of new) })
      × IsAnswered call (record { files = files; input = whole (bytes_of new) })
