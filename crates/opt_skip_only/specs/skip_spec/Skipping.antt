-- Commands that skip the first bytes of their input. Each skipped byte is an item, whose output is
-- empty or the byte itself. The command starts after the skipped bytes. The arguments determine the
-- number of skipped bytes, which is why a command set does not need to handle the option.
use Rattle.std.specs.Prelude.{ℕ, ◌<◌, ◌≤◌, ◌≡◌, ◌⊎◌, Bool, true, false, List, [], ◌∷◌, length, drop}
use Rattle.cli_spec.specs.Outcome.{Request, Asks, Output, nothing_output, Reply, exits}
use Rattle.cli_spec.specs.declared.exit.Exit.{Exit}
use Rattle.cli_spec.specs.declared.exit.Exit.TheVariants.{Short as short_input}
use Rattle.run_spec.specs.runs.Account.{Account}
use Rattle.run_spec.specs.runs.Call.{Call}
use Rattle.run_spec.specs.runs.Commands.{Item, value as value_item, text as text_item, Commands}
use Rattle.run_spec.specs.runs.RunSpec.{RunSpec}
use Rattle.run_spec.specs.command_sum.Beside.{Finds}

-- The number of bytes to skip, and whether the skipped bytes are written unchanged.
pub record SkippedBytes : Type 0 where
  pub bytes : ℕ
  pub copied : Bool

-- The bytes are one byte, which is an item, followed by the bytes `more`.
pub record IsByte (bytes : List ℕ) (item : Item) (more : List ℕ) : Type 0 where
  pub byte : ℕ
  pub bytes_are : bytes ≡ byte ∷ more
  pub is : item ≡ text_item (byte ∷ [])

-- The output for a skipped byte.
abbrev pub passed_output : Bool → Item → Output
passed_output true (text_item bytes) = record { text = bytes; ok = true }
passed_output true (value_item tree) = nothing_output
passed_output false item = nothing_output

-- The outputs for several skipped bytes.
abbrev pub bytes_output : Bool → List ℕ → List Output
bytes_output copied [] = []
bytes_output copied (b ∷ bytes) =
    passed_output copied (text_item (b ∷ [])) ∷ bytes_output copied bytes

module _ {A : Type 0} (c : Commands A) where
  -- The next item is a skipped byte, or an item of the command after all bytes to skip.
  abbrev pub IsFirst : SkippedBytes × A → List Item → List ℕ → Item → List ℕ → Type 0
  IsFirst act items bytes item more =
      ((length items < act.0.bytes) × IsByte bytes item more)
      ⊎ ((act.0.bytes ≤ length items)
      × c.IsFirst act.1 (drop act.0.bytes items) bytes item more)

  abbrev pub Outputs : SkippedBytes × A → List Item → Item → Output → Type 0
  Outputs act items item output =
      ((length items < act.0.bytes) × (output ≡ passed_output act.0.copied item))
      ⊎ ((act.0.bytes ≤ length items)
      × c.Outputs act.1 (drop act.0.bytes items) item output)

  -- The command ends the run after all bytes to skip, because no skipped byte ends the run.
  abbrev pub Exits : SkippedBytes × A → List Item → List ℕ → Exit → Type 0
  Exits act items bytes exit =
      (act.0.bytes ≤ length items)
      × c.Exits act.1 (drop act.0.bytes items) bytes exit

  -- If the input ends within the bytes to skip, the final reply reports the end.
  abbrev pub Ends : SkippedBytes × A → List Item → List ℕ → Reply → Type 0
  Ends act items bytes last =
      ((length items < act.0.bytes) × (last ≡ exits (short_input (length items))))
      ⊎ ((act.0.bytes ≤ length items)
      × c.Ends act.1 (drop act.0.bytes items) bytes last)

-- No request of the arguments skips a byte.
abbrev pub PassNothing : (Request → SkippedBytes) → List (List ℕ) → Type 0
PassNothing passed_by arguments =
    (request : Request) → Asks arguments request → (passed_by request).bytes ≡ 0

module _ {A : Type 0} (passed_by : Request → SkippedBytes) (c : Commands A) where
  -- The commands after the skipped bytes.
  abbrev pub skipping : Commands (SkippedBytes × A)
  skipping = record {
    Wants = c.Wants;
    Finds = Finds passed_by c;
    Reads = λ act. c.Reads act.1;
    IsFirst = IsFirst c;
    Outputs = Outputs c;
    Exits = Exits c;
    Ends = Ends c;
  }

  -- ---- arguments that skip nothing

  -- If the arguments skip no byte, then an account by the commands is an account with `--skip`.
  abbrev pub HaveAccountsAtOnce : Type 0
  HaveAccountsAtOnce = (arguments : List (List ℕ)) (call : Call) → PassNothing passed_by arguments
      → Account c arguments call → Account skipping arguments call

  -- If the arguments skip no byte, then the specification with `--skip` implies the specification
  -- of the commands.
  abbrev pub SpecifyAtOnce : Type 0
  SpecifyAtOnce = (arguments : List (List ℕ)) (call : Call) → PassNothing passed_by arguments
      → RunSpec skipping arguments call → RunSpec c arguments call
