-- Exit status specification of the command `gen`:
--
-- - 0: TYPE is valid, and the generated value has the type.
-- - 1: TYPE is valid, and the generated value does not have the type.
-- - 2: The arguments are invalid.
-- - 3: TYPE is refused.
--
-- If writing to out or err fails, the status can be 7 instead. If memory runs out, the status can
-- be 9 instead. No other status occurs, for all inputs and files.
use Rattle.std.specs.Prelude.{ℕ, ◌≡◌, ◌≢◌, ◌↔◌, ◌⊎◌, Bool, true, false, List, Some, Ok}
use Rattle.cli_spec.specs.declared.status.Status.{Status}
use Rattle.cli_spec.specs.declared.status.Status.TheVariants.{AllOk, No, Usage, Types, Value}
use Rattle.cli_spec.specs.declared.status.Status.TheVariants.{Script, ReadFault, OpenFault}
use Rattle.cli_spec.specs.declared.status.Status.TheVariants.{TooLong, Compat, Certificate}
use Rattle.cli_spec.specs.Outcome.{nothing, Request, asked_type, Asks, IsUsage, Output, Language}
use Rattle.base_io.specs.Sink.{Writes}
use Rattle.cmd_gen.specs.generator.Generated.{item_declarations}
use Rattle.run_spec.specs.runs.Call.{Call}
use Rattle.run_spec.specs.runs.Given.{Gathers}
use Rattle.run_spec.specs.runs.Environment.{IsWriteOrMemoryError}
use Rattle.run_spec.specs.exit_statuses.Stages.{IsRefusedType}
use Rattle.cmd_gen.specs.spec.GenSpec.{GenArguments, generated_by, making, IsMadeLine}

module _ {D T E : Type 0} (language : Language D T E) where
  -- TYPE is valid, and `output` is the output for the generated value.
  pub record IsKnownOf (asked : GenArguments) (output : Output) : Type 0 where
    pub decls : D
    pub are_declared : language.ReadsDeclarations false item_declarations (Ok decls)
    pub type : T
    pub is_type : language.ReadsType decls (asked_type asked.type false) (Ok type)
    pub is_line : IsMadeLine language (making asked type) output

  -- There is an output for the generated value, and `ok` states whether the value has the type.
  abbrev pub IsKnown : GenArguments → Bool → Type 0
  IsKnown asked ok = (output : Output) × IsKnownOf asked output × (output.ok ≡ ok)

  -- The parsed arguments determine this status.
  abbrev pub Gives : GenArguments → Status → Type 0
  Gives asked AllOk = IsKnown asked true
  Gives asked No = IsKnown asked false
  Gives asked Types = IsRefusedType language item_declarations (asked_type asked.type false)
  Gives asked status = ⊥

  module _ (arguments : List (List ℕ)) where
    -- The arguments parse to the request `asked`.
    abbrev pub AskFor : GenArguments → Type 0
    AskFor asked =
        (request : Request) × Asks arguments request × (generated_by request ≡ Some asked)

    abbrev pub IsDue : Status → Type 0
    IsDue status =
        (IsUsage arguments × (status ≡ Usage))
        ⊎ ((asked : GenArguments) × AskFor asked × Gives asked status)

    -- The run has exactly the status that the arguments and TYPE determine, unless memory ran out
    -- or writing failed.
    abbrev pub HasWhatIsDue : Call → Type 0
    HasWhatIsDue call =
        IsWriteOrMemoryError call.status
        ⊎ ((status : Status) → (call.status ≡ status) ↔ IsDue status)

    -- If the status is 0 or 1, then the line of the value and nothing else is written to out.
    abbrev pub WritesTheLine : Call → Type 0
    WritesTheLine call = (call.status ≡ AllOk) ⊎ (call.status ≡ No)
        → (asked : GenArguments) × AskFor asked × (output : Output) × IsKnownOf asked output
        × Writes call.out output.text

-- The call does not end with status 4, 5, 6, 8, 10, 11 or 12.
pub record AreNever (call : Call) : Type 0 where
  pub value : call.status ≢ Value
  pub script : call.status ≢ Script
  pub read_fault : call.status ≢ ReadFault
  pub open_fault : call.status ≢ OpenFault
  pub too_long : call.status ≢ TooLong
  pub compat : call.status ≢ Compat
  pub certificate : call.status ≢ Certificate

-- The call fetches no file and reads no input.
pub record LeavesEnvironment (call : Call) : Type 0 where
  pub files : call.files.after ≡ call.files.before
  pub input : Gathers call.input nothing

-- The exit status specification of a call: each status has its cause, and each cause has its
-- status, for all inputs and files.
pub record GenCauses {D T E : Type 0} (language : Language D T E) (arguments : List (List ℕ))
    (call : Call)
    : Type 0 where
  pub due : HasWhatIsDue language arguments call
  pub line : WritesTheLine language arguments call
  pub never : AreNever call
  pub leaves : LeavesEnvironment call
