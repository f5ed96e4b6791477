-- The bytes taken from the input, if values are given to the streaming check before they are read.
use Rattle.std.specs.Prelude.{ℕ, ◌≡◌, ◌⊎◌, List, [], ◌++◌}
use Rattle.types_table.specs.type_table.Made.{table_of}
use Rattle.cli_spec.specs.Outcome.{Output}
use Rattle.check_stream.specs.declared.chunk_check.stream_check.StreamCheck.{StreamCheck}
use Rattle.check_stream.specs.chunk_check.StreamCheck.{IsStreamCheck}
use Rattle.session.specs.declared.input_values.Values.{Values}
use Rattle.session.specs.declared.input_values.ValueTask.{ValueTask}
use Rattle.session.specs.declared.input_values.ValueTask.TheVariants as value_tasks
use Rattle.session.specs.declared.value_output.Query.TheVariants as queries
use Rattle.session.specs.declared.value_output.Printing.TheVariants as printings
use Rattle.session.specs.FastCheck.{IsBetween}
use Rattle.session.specs.InputValues.{HasRead}

-- The streaming check keeps bytes only for verdicts and edits. The kept bytes are a prefix of a
-- value of which the reader has taken no byte.
abbrev pub IsChecked : ValueTask → Values → StreamCheck → Type 0
IsChecked (value_tasks.Print (printings.Report r queries.Verdict) limit) values stream_check =
    IsStreamCheck (table_of r.now.table) limit stream_check
    × ((stream_check.kept.items ≡ []) ⊎ IsBetween values)
IsChecked (value_tasks.Edit e limit) values stream_check =
    IsStreamCheck (table_of e.requested.now.table) limit stream_check
    × ((stream_check.kept.items ≡ []) ⊎ IsBetween values)
IsChecked value_task values stream_check = stream_check.kept.items ≡ []

-- All bytes except the kept bytes were read, and `output` is the output for the values of the bytes
-- that were read.
pub record HasTaken
    (value_task : ValueTask) (values : Values) (stream_check : StreamCheck) (taken : List ℕ)
    (output : List Output)
    : Type 0 where
  pub before : List ℕ
  pub whole : taken ≡ before ++ stream_check.kept.items
  pub read : HasRead value_task values before output
  pub checked : IsChecked value_task values stream_check
