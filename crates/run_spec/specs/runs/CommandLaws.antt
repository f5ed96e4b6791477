-- Theorems about lawful commands.
use Rattle.std.specs.Prelude.{ℕ, List, take}
use Rattle.base_data.specs.model.Bytes.{AreBytes}
use Rattle.cli_spec.specs.Outcome.{Output}
use Rattle.cli_spec.specs.declared.exit.Exit.{Exit}
use Rattle.run_spec.specs.runs.Account.{Account}
use Rattle.run_spec.specs.runs.Call.{Call}
use Rattle.run_spec.specs.runs.Commands.{Item, Given, Commands, OutputsFirst, GoesOn, HaveExit}
use Rattle.run_spec.specs.runs.Commands.{RunReplies}
use Rattle.run_spec.specs.runs.Given.{ReportsBytes}
use Rattle.run_spec.specs.runs.Lawful.{IsOnce, IsFound}
use Rattle.run_spec.specs.runs.RunSpec.{RunSpec}

module _ {A : Type 0} (c : Commands A) where
  -- For each `given`, which is what the environment provides, there is at most one output.
  abbrev pub HaveOneOutcome : Type 0
  HaveOneOutcome = (arguments : List (List ℕ)) (given : Given) → AreBytes given.input.bytes
      → IsOnce (RunReplies c arguments given)

  -- Bytes contain at most one exit reason.
  abbrev pub HaveOneExit : Type 0
  HaveOneExit = (a : A) → IsFound c a → (bytes : List ℕ) → AreBytes bytes
      → IsOnce (HaveExit c a bytes)

  -- If the first bytes contain an exit reason, then all bytes contain the exit reason.
  abbrev pub ExitsStay : Type 0
  ExitsStay = (a : A) → IsFound c a → (n : ℕ) (bytes : List ℕ) (exit : Exit)
      → HaveExit c a (take n bytes) exit → HaveExit c a bytes exit

  -- If the run needs more bytes after `bytes`, then `bytes` contain no exit reason.
  abbrev pub ExitsAreLast : Type 0
  ExitsAreLast = (a : A) → IsFound c a → (bytes : List ℕ) (exit : Exit) → AreBytes bytes
      → HaveExit c a bytes exit
      → (items : List Item) (output : List Output) (rest : List ℕ)
      → OutputsFirst c a bytes items output rest → GoesOn c a items rest → ⊥

  -- Each run with an account satisfies the specification.
  abbrev pub ArePromised : Type 0
  ArePromised = (arguments : List (List ℕ)) (call : Call) → ReportsBytes call.input
      → Account c arguments call → RunSpec c arguments call

  -- `Holds` is true of each run that satisfies the specification.
  abbrev pub Follow : (List (List ℕ) → Call → Type 0) → Type 0
  Follow Holds = (arguments : List (List ℕ)) (call : Call) → ReportsBytes call.input
      → RunSpec c arguments call → Holds arguments call
