-- The output for the values of the input, while their bytes arrive.
use Rattle.std.specs.Prelude.{ℕ, ◌<◌, ◌≤◌, ◌≡◌, ◌⊎◌, Bool, true, List, [], ◌∷◌, ◌++◌, length}
use Rattle.std.specs.Prelude.{Result, Ok, Err, All}
use Rattle.std.specs.List.{AllZip}
use Rattle.base_data.specs.declared.model.out_of_memory.Memory.{Memory}
use Rattle.base_data.specs.model.Graph.{IsValue}
use Rattle.marshal_spec.specs.format.Tree.{Tree}
use Rattle.marshal_spec.specs.format.Prefix.{IsPrefix}
use Rattle.marshal_read.specs.declared.returned_value.Value.{Value}
use Rattle.marshal_read.specs.Reading.{IsValueOf}
use Rattle.marshal_read.specs.Reader.{LeadsReader, IsDone}
use Rattle.cli_spec.specs.Outcome.{Output, nothing_output, outputs, all_ok, ValueWork, compares}
use Rattle.cli_spec.specs.Outcome.{edits}
use Rattle.cli_spec.specs.Outcome.{Task, task, PrintFirst, ExitsAt, Finishes}
use Rattle.cli_spec.specs.Outcome as outcome
use Rattle.cli_spec.specs.declared.exit.Exit.{Exit}
use Rattle.cli_spec.specs.declared.exit.Exit.TheVariants.{Memory as out_of_memory}
use Rattle.base_io.specs.Sink.{Writes, WritesPart}
use Rattle.base_io.specs.StreamState.{ByteState, Change}
use Rattle.edit_values.specs.Grafts.{Other}
use Rattle.text_path.specs.ScriptAnswer.{AreInTime}
use Rattle.text_path.specs.declared.edits.ScriptLine.{ScriptLine}
use Rattle.cli_errors.specs.declared.exit_line.Error.{Error}
use Rattle.cli_errors.specs.declared.exit_line.Error.TheVariants as aborts
use Rattle.session.specs.declared.input_values.Values.{Values}
use Rattle.session.specs.declared.input_values.ValueTask.{ValueTask}
use Rattle.session.specs.declared.input_values.ValueTask.TheVariants as value_tasks
use Rattle.run_types.specs.Language.{TypeOver, declared_types, AreDone}
use Rattle.session.specs.Earlier.{AreMade, AreEarlier}
use Rattle.session.specs.declared.earlier.Earlier.{Earlier}
use Rattle.session.specs.declared.edit_lines.Edits.{Edits}
use Rattle.run_types.specs.RequestedTexts.{type_over, IsReady}
use Rattle.session.specs.ValueOutput.{work_by, IsReadyPrinting}
use Rattle.run_types.specs.Checked.{OrMemory}

-- The greatest number of 64-bit words in a value.
abbrev pub word_limit : ValueTask → ℕ
word_limit (value_tasks.Print printing limit) = limit
word_limit (value_tasks.Edit e limit) = limit
word_limit (value_tasks.Compare limit) = limit

-- The operation that edits each value.
abbrev pub edits_by : Edits → ValueWork TypeOver ScriptLine
edits_by e = edits (type_over e.requested.now) e.script.now.lines e.compat

abbrev pub work_of : ValueTask → ValueWork TypeOver ScriptLine
work_of (value_tasks.Print printing limit) = work_by printing
work_of (value_tasks.Edit e limit) = edits_by e
work_of (value_tasks.Compare limit) = compares

-- If values are checked, the table is the table of the type. Each script line copies from values
-- before the edited value.
abbrev pub IsReadyValueTask : ValueTask → Type 0
IsReadyValueTask (value_tasks.Print printing limit) = IsReadyPrinting printing
IsReadyValueTask (value_tasks.Edit e limit) = IsReady e.requested.now × AreInTime e.script.now.lines
IsReadyValueTask (value_tasks.Compare limit) = Unit {0}

-- The operation on the values.
abbrev pub task_of : ValueTask → Task TypeOver ScriptLine
task_of value_task = task (work_of value_task) (word_limit value_task)

-- ---- between two calls on the input

-- If `n` values were read, any further byte ends the run.
abbrev pub IsFull : ValueTask → ℕ → Type 0
IsFull (value_tasks.Print printing limit) n = ⊥
IsFull (value_tasks.Edit e limit) n = ⊥
IsFull (value_tasks.Compare limit) n = n ≡ 2

-- If `n` values were read, one more value may follow.
abbrev pub MayTake : ValueTask → ℕ → Type 0
MayTake (value_tasks.Print printing limit) n = Unit {0}
MayTake (value_tasks.Edit e limit) n = Unit {0}
MayTake (value_tasks.Compare limit) n = n < 2

abbrev pub AreValues : List Value → Type 0
AreValues kept = All (λ v. IsValue (length v.heap) v.root) kept

-- The script lines edited the values of the trees, and the edited values from which later lines
-- copy are kept.
pub record HaveMade (e : Edits) (trees : List Tree) (earlier : List Earlier) : Type 0 where
  pub others : List Other
  pub done : AreDone (type_over e.requested.now) e.script.now.lines [] trees others
  pub kept : AreMade others earlier
  pub needed : AreEarlier e.script.now.lines (length trees) earlier

-- If values are compared, the values of the trees are kept. If values are edited, the results from
-- which later lines copy are kept.
abbrev pub IsKept : ValueTask → List Tree → List Value → List Earlier → Type 0
IsKept (value_tasks.Print printing limit) trees kept earlier = Unit {0}
IsKept (value_tasks.Edit e limit) trees kept earlier = HaveMade e trees earlier
IsKept (value_tasks.Compare limit) trees kept earlier =
    AllZip IsValueOf kept trees × (length trees ≤ 2)

-- True if the last value with output is ok. If no value has output, the given result `ok`.
abbrev pub last_ok : Bool → List Output → Bool
last_ok ok [] = ok
last_ok ok (output ∷ more) = last_ok output.ok more

-- The reader has taken the bytes after the complete values, which are a prefix of the next value.
-- Nothing ends the run, and `output` is the output for the complete values.
pub record HasRead (value_task : ValueTask) (values : Values) (taken : List ℕ)
    (output : List Output) : Type 0 where
  pub ready : IsReadyValueTask value_task
  pub trees : List Tree
  pub prefix : List ℕ
  pub first : PrintFirst declared_types (task_of value_task) taken trees output prefix
  pub is_prefix : IsPrefix (word_limit value_task) prefix
  pub goes_on : (exit : Exit)
      → ExitsAt declared_types (work_of value_task) (word_limit value_task) trees prefix exit → ⊥
  pub leads : LeadsReader (word_limit value_task) prefix values.reader
  pub counted : values.count ≡ length trees
  pub ok : values.ok ≡ all_ok output
  pub last : values.last ≡ last_ok true output
  pub kept : IsKept value_task trees values.kept.items values.earlier.items

-- The reader has taken all bytes of the next value, and `output` is the output for the values
-- before the next value.
pub record IsValueRead (value_task : ValueTask) (values : Values) (taken : List ℕ)
    (output : List Output)
    : Type 0 where
  pub ready : IsReadyValueTask value_task
  pub trees : List Tree
  pub whole : List ℕ
  pub first : PrintFirst declared_types (task_of value_task) taken trees output whole
  pub some : 0 < length whole
  pub may : MayTake value_task (length trees)
  pub leads : LeadsReader (word_limit value_task) whole values.reader
  pub done : IsDone values.reader
  pub counted : values.count ≡ length trees
  pub ok : values.ok ≡ all_ok output
  pub kept : IsKept value_task trees values.kept.items values.earlier.items

-- `output` is the output for the first values of the bytes.
abbrev pub AreOutput : ValueTask → List ℕ → List Output → Type 0
AreOutput value_task bytes output =
    (trees : List Tree) × (rest : List ℕ)
    × PrintFirst declared_types (task_of value_task) bytes trees output rest

-- The current value is kept, or memory ran out.
abbrev pub KeepsNext : {U : Type 0} → ℕ → List ℕ → List Output → Values → Result U Memory → Type 0
KeepsNext limit taken output new (Ok unit) =
    HasRead (value_tasks.Compare limit) new taken (output ++ nothing_output ∷ [])
KeepsNext limit taken output new (Err memory) = Unit {0}

-- If the result is `Ok`, the output for the current value is written, and the reader waits for the
-- next value. If the result is `Err`, the value ends the run, memory ran out, or writing the output
-- fails.
abbrev pub WritesNext : {U : Type 0} → ValueTask → List ℕ → List Output → List Tree → List ℕ
    → Change ByteState → Values → Result U Error → Type 0
WritesNext value_task taken output trees whole out new (Ok unit) =
    (next : Output) × HasRead value_task new taken (output ++ next ∷ []) × Writes out next.text
WritesNext value_task taken output trees whole out new (Err (aborts.Exit exit)) =
    OrMemory
    (λ exit. ExitsAt declared_types (work_of value_task)
    (word_limit value_task) trees whole exit) exit
    × Writes out []
WritesNext value_task taken output trees whole out new (Err aborts.WriteFault) =
    (next : Output) × AreOutput value_task taken (output ++ next ∷ []) × WritesPart out next.text

-- ---- the end of the input

-- The output line of the comparison is written, and the result states whether the two values are
-- isomorphic.
abbrev pub WritesComparison : List Tree → Change ByteState → Result Bool Error → Type 0
WritesComparison trees out (Ok ok) =
    (final : Output) × Finishes declared_types compares trees (outputs final) × (ok ≡ final.ok)
    × Writes out final.text
WritesComparison trees out (Err (aborts.Exit exit)) =
    (Finishes declared_types compares trees (outcome.exits exit)
    ⊎ (exit ≡ out_of_memory))
    × Writes out []
WritesComparison trees out (Err aborts.WriteFault) =
    (final : Output) × Finishes declared_types compares trees (outputs final)
    × WritesPart out final.text

-- The kept values are compared, whatever their trees are.
abbrev pub Compares : List Value → Change ByteState → Result Bool Error → Type 0
Compares kept out result =
    (trees : List Tree) → AllZip IsValueOf kept trees → WritesComparison trees out result

-- If the result is `Ok`, the result is `ok`. If the result is `Err`, a line that edits none of the
-- values ends the run, or memory ran out.
abbrev pub EndsScript : Edits → List Tree → Bool → Result Bool Error → Type 0
EndsScript e trees ok (Ok same) =
    Finishes declared_types (edits_by e) trees (outputs nothing_output) × (same ≡ ok)
EndsScript e trees ok (Err (aborts.Exit exit)) =
    Finishes declared_types (edits_by e) trees (outcome.exits exit) ⊎ (exit ≡ out_of_memory)
EndsScript e trees ok (Err aborts.WriteFault) = ⊥
