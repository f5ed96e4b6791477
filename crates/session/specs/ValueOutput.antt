-- The output for a value, by the kind of output.
use Rattle.std.specs.Prelude.{ℕ, ◌≡◌, Bool, true, if◌then◌else◌, List, ◌++◌}
use Rattle.base_data.specs.declared.model.value.Val.{Val}
use Rattle.base_data.specs.declared.model.value.Obj.{Obj}
use Rattle.cli_spec.specs.Outcome as outcome
use Rattle.text_decimal.specs.texts.Texts.{decimal_text}
use Rattle.text_print.specs.show.DumpedGraph.{dump_text}
use Rattle.text_path.specs.declared.edits.ScriptLine.{ScriptLine}
use Rattle.session.specs.declared.value_output.Query.{Query}
use Rattle.session.specs.declared.value_output.Query.TheVariants as queries
use Rattle.session.specs.declared.value_output.Printing.{Printing}
use Rattle.session.specs.declared.value_output.Printing.TheVariants as printings
use Rattle.run_types.specs.Language.{TypeOver, IsTypeLine, OutputsLine}
use Rattle.run_types.specs.RequestedTexts.{type_over, IsReady}

abbrev pub query_of : Query → outcome.Query
query_of queries.Verdict = outcome.the_verdict
query_of (queries.Text style) = outcome.the_text style
query_of (queries.Part path style) = outcome.the_part path.now style
query_of queries.Trees = outcome.the_trees

-- The operation that writes the output `Printing` for each value.
abbrev pub work_by : Printing → outcome.ValueWork TypeOver ScriptLine
work_by (printings.Report r query) = outcome.reports (query_of query) (type_over r.now)
work_by printings.Dump = outcome.dumps

-- The table by which values are checked is the table of the type.
abbrev pub IsReadyPrinting : Printing → Type 0
IsReadyPrinting (printings.Report r query) = IsReady r.now
IsReadyPrinting printings.Dump = Unit {0}

-- `text` is the output for a value, and `ok` states whether the value is ok.
abbrev pub IsOutputOf : Printing → List Obj → Val → List ℕ → Bool → Type 0
IsOutputOf (printings.Report r query) graph v text ok =
    OutputsLine (query_of query) (type_over r.now) graph v text ok
IsOutputOf printings.Dump graph v text ok = (text ≡ dump_text graph v) × (ok ≡ true)

-- A text with doubles as decimals if `decimal` is true, and with doubles by their bits if `decimal`
-- is false.
abbrev pub with_decimals : (decimal : Bool) → List ℕ → List ℕ
with_decimals decimal text = if decimal then decimal_text text else text

-- The line of a value is appended to another text, and `ok` states whether the value is ok.
abbrev pub WritesLine : outcome.Query → TypeOver → List Obj → Val → List ℕ → List ℕ → Bool → Type 0
WritesLine query t graph root old new ok =
    (line : List ℕ) × IsTypeLine query t graph root line ok × (new ≡ old ++ line)
