-- The results of the code for a line.
use Rattle.std.specs.Prelude.{ℕ, ◌+◌, ◌≡◌, true, List, [], ◌∷◌, ◌++◌, length, Option, Some, None}
use Rattle.std.specs.Prelude.{Result, Ok, Err}
use Rattle.base_data.specs.declared.model.value.Val.{Val}
use Rattle.base_data.specs.declared.model.value.Obj.{Obj}
use Rattle.base_data.specs.model.Graph.{IsValue}
use Rattle.types_wellformed.specs.declarations.DeclarationFaultText.{lexer_text}
use Rattle.check_fault.specs.FaultText.{text_at}
use Rattle.edit_values.specs.Reasons.{literal_or_none, literal_reason}
use Rattle.base_io.specs.Sink.{Writes, WritesPart}
use Rattle.base_io.specs.StreamState.{ByteState, Change}
use Rattle.cli_spec.specs.Outcome.{Output, all_ok}
use Rattle.cli_spec.specs.declared.exit.Exit.{Exit}
use Rattle.cli_spec.specs.declared.exit.Exit.TheVariants.{Text as text_line}
use Rattle.cli_spec.specs.declared.exit.Exit.TheVariants.{Untyped as untyped_value}
use Rattle.cli_errors.specs.declared.exit_line.Error.{Error}
use Rattle.cli_errors.specs.declared.exit_line.Error.TheVariants as aborts
use Rattle.run_spec.specs.runs.Commands.{Item, OutputsFirst}
use Rattle.run_loop.specs.work.Works.{Has, AbortsIn}
use Rattle.types_table.specs.declared.type_table.tabled.Tabled.{Tabled}
use Rattle.text_roundtrip.specs.declared.text_lines.text_reader.TextFault.{TextFault}
use Rattle.text_roundtrip.specs.declared.text_lines.text_reader.TextFault.TheVariants as faults
use Rattle.run_types.specs.Checked.{OrMemory}
use Rattle.run_types.specs.Language.{TypeOver, declared_types}
use Rattle.run_types.specs.RequestedTexts.{type_over, IsReady}
use Rattle.run_types.specs.declared.requested.Prepared.{Prepared}
use Rattle.cmd_build.specs.spec.InputTexts.{Built, blank, made, refused, untyped, counted}
use Rattle.cmd_build.specs.spec.InputTexts.{IsUnbroken}
use Rattle.cmd_build.specs.spec.InputTexts.{IsOutputOf, AreTexts, building}
use Rattle.cmd_build.specs.command.InputLines.{declared_texts, plain_texts, IsText}

-- The text of an error, where `known` is the form of positions. If the error is that memory ran
-- out, there is no text.
abbrev pub IsFaultText : Tabled → (known : ℕ → List ℕ) → TextFault → List ℕ → Type 0
IsFaultText table known (faults.Lex fault) text = text ≡ lexer_text known fault
IsFaultText table known (faults.Literal fault) text =
    text ≡ literal_or_none (text_at table) known (literal_reason fault)
IsFaultText table known faults.Memory text = ⊥

-- Line `line`, after `k` texts, ends the run with the exit reason `exit`.
abbrev pub IsExitAt : ℕ → ℕ → Built → Exit → Type 0
IsExitAt line k blank exit = ⊥
IsExitAt line k (made bytes) exit = ⊥
IsExitAt line k (refused refusal) exit = exit ≡ text_line line (refusal line)
IsExitAt line k (untyped fault) exit = exit ≡ untyped_value k fault

-- If the result is ok, the text is blank, or denotes a value with the new objects. If the result is
-- an error, the run ends at the line.
abbrev pub ReadsLine : TypeOver → (known : ℕ → ℕ → List ℕ) → List ℕ → ℕ → List Obj
    → Result (Option Val) Error → Type 0
ReadsLine t known text line new (Ok None) = plain_texts t known text blank
ReadsLine t known text line new (Ok (Some root)) =
    IsValue (length new) root × IsText t text (Ok (new, root))
ReadsLine t known text line new (Err (aborts.Exit exit)) =
    OrMemory (λ exit.
    (refusal : ℕ → List ℕ) × plain_texts t known text (refused refusal)
    × (exit ≡ text_line line (refusal line))) exit
ReadsLine t known text line new (Err aborts.WriteFault) = ⊥

-- If the error is an exit reason, nothing is written. The exit reason is that of the line, with the
-- numbers of the line and of its text. Running out of memory is also possible. If the error is a
-- write fault, only a part of the line's output is written.
abbrev pub AbortsBy : (Of : Built → Type 0) → ℕ → ℕ → Change ByteState → Error → Type 0
AbortsBy Of line k out (aborts.Exit exit) =
    OrMemory (λ exit. (built : Built) × Of built × IsExitAt line k built exit) exit × Writes out []
AbortsBy Of line k out aborts.WriteFault =
    (built : Built) × Of built × (output : Output) × IsOutputOf built output
    × WritesPart out output.text

-- If the result is ok, the bytes of the value are written. If the result is an error, the run ends,
-- or writing the output fails.
abbrev pub WritesValue : {U : Type 0} → (Of : Built → Type 0) → ℕ → ℕ → Change ByteState
    → Result U Error → Type 0
WritesValue Of line k out (Ok unit) = (bytes : List ℕ) × Of (made bytes) × Writes out bytes
WritesValue Of line k out (Err error) = AbortsBy Of line k out error

-- The output for the line is written, and `texts` is the new number of texts.
abbrev pub WritesBy : (Of : Built → Type 0) → ℕ → ℕ → Change ByteState → Result ℕ Error → Type 0
WritesBy Of line k out (Ok texts) =
    (built : Built) × Of built × (output : Output) × IsOutputOf built output
    × Writes out output.text
    × (texts ≡ k + counted built)
WritesBy Of line k out (Err error) = AbortsBy Of line k out error

-- The statement `AbortsBy` for the meaning of the line at the type.
abbrev pub AbortsAtLine : TypeOver → List ℕ → ℕ → ℕ → Change ByteState → Error → Type 0
AbortsAtLine t text line k out error = AbortsBy (declared_texts t text) line k out error

abbrev pub WritesLine : TypeOver → List ℕ → ℕ → ℕ → Change ByteState → Result ℕ Error → Type 0
WritesLine t text line k out result = WritesBy (declared_texts t text) line k out result

-- The lines in the bytes `bytes` were taken without errors, and `output` is the output for the
-- lines. The bytes after the last line feed are buffered.
pub record HasTexts (requested : Prepared) (held : List ℕ) (lines texts : ℕ) (bytes : List ℕ)
    (output : List Output) : Type 0 where
  pub ready : IsReady requested
  pub items : List Item
  pub first : OutputsFirst (building declared_types declared_texts)
      (type_over requested) bytes items
      output held
  pub unbroken : IsUnbroken held
  pub counted : lines ≡ length items
  pub are_texts : AreTexts declared_texts (type_over requested) items texts
  pub ok : all_ok output ≡ true

-- If the result is ok, a line ends with the bytes `end` and a line feed, and the line's output is
-- written. If the result is an error, the line causes the error.
abbrev pub TakesLine : {U : Type 0} → TypeOver → Has → Has → List ℕ → Change ByteState
    → Result U Error → Type 0
TakesLine t before after end out (Ok unit) =
    (bytes : List ℕ) (output : List Output) → before bytes output
    → (next : Output) × after (bytes ++ (end ++ 10 ∷ [])) (output ++ next ∷ [])
    × Writes out next.text
TakesLine t before after end out (Err error) =
    (more bytes : List ℕ) (output : List Output) → before bytes output
    → AbortsIn (building declared_types declared_texts) t bytes (end ++ 10 ∷ more) output out error
