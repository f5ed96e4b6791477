-- The results of the streaming check on the current bytes for the next value.
use Rattle.std.specs.Prelude.{ℕ, ◌+◌, ◌<◌, ◌≤◌, ◌≡◌, true, false, List, [], ◌++◌, length, take}
use Rattle.std.specs.Prelude.{codes, Ok}
use Rattle.std.specs.Borrow.{Bor}
use Rattle.marshal_spec.specs.format.Tree.{Tree, root, objects_of}
use Rattle.marshal_spec.specs.format.Encoded.{EncodedUnder}
use Rattle.marshal_spec.specs.format.Canonical.{canon}
use Rattle.marshal_read.specs.Reader.{LeadsReader, EndsInput}
use Rattle.cli_spec.specs.Outcome.{Output, the_verdict, line}
use Rattle.run_loop.specs.work.Works.{Has}
use Rattle.types_spec.specs.types.Equal.{declared_shapes}
use Rattle.types_spec.specs.types.Table.{Table}
use Rattle.types_spec.specs.types.Typing.{HasType}
use Rattle.types_theory.specs.type_variables.TypeVariables.{HasEachInstance}
use Rattle.types_table.specs.type_table.Made.{table_of}
use Rattle.check_stream.specs.declared.chunk_check.stream_check.StreamCheck.{StreamCheck}
use Rattle.check_stream.specs.chunk_check.StreamCheck.{IsStreamCheck}
use Rattle.run_types.specs.Language.{OutputsLine, lines_of_value}
use Rattle.run_types.specs.RequestedTexts.{type_over}
use Rattle.run_types.specs.declared.requested.Prepared.{Prepared}
use Rattle.session.specs.Earlier.{IsUsedUpTo}
use Rattle.session.specs.declared.edit_lines.Edits.{Edits}
use Rattle.session.specs.declared.fast_check.FastResult.{FastResult}
use Rattle.session.specs.declared.fast_check.FastResult.TheVariants as seen
use Rattle.session.specs.declared.fast_check.Unchanged.{Unchanged}
use Rattle.session.specs.declared.fast_check.Unchanged.TheVariants as unchanged
use Rattle.session.specs.declared.input_values.Values.{Values}
use Rattle.session.specs.declared.input_values.ValueTask.{ValueTask}
use Rattle.session.specs.declared.input_values.ValueTask.TheVariants as value_tasks
use Rattle.session.specs.declared.value_output.Query.TheVariants as queries
use Rattle.session.specs.declared.value_output.Printing.TheVariants as printings

-- The output for a value that has the type.
abbrev pub yes : Output
yes = record { text = line (codes "yes"); ok = true }

-- The output for a value that lacks the type: a line with its line feed.
abbrev pub no_in : List ℕ → Output
no_in text = record { text = text; ok = false }

-- The first `n` bytes encode a value of at most `limit` 64-bit words, and `output` is the output
-- for the value's verdict.
pub record IsVerdictOn (r : Prepared) (limit n : ℕ) (bytes : List ℕ)
    (output : Output) : Type 0 where
  pub within : n ≤ length bytes
  pub tree : Tree
  pub encoded : EncodedUnder limit (take n bytes) tree
  pub outputs :
      OutputsLine the_verdict (type_over r) (objects_of tree 0) (root tree 0) output.text output.ok

-- The kept bytes and the first `n` bytes of the chunk satisfy `IsVerdictOn`. No byte of the next
-- value is kept.
pub record IsVerdictNext (r : Prepared) (limit : ℕ) (old : StreamCheck) (chunk : List ℕ)
    (new : StreamCheck)
    (n : ℕ) (output : Output) : Type 0 where
  pub some : 0 < n
  pub within : n ≤ length chunk
  pub verdict : IsVerdictOn r limit (length old.kept.items + n) (old.kept.items ++ chunk) output
  pub none : new.kept.items ≡ []
  pub stream_check : (table : Table) (limit' : ℕ) → IsStreamCheck table limit' new

-- The result of the streaming check on a chunk: the verdict on the value, or that more bytes are
-- needed, or that the check is inconclusive. If the verdict is `no`, `text` is the output.
abbrev pub IsFastCheck : Prepared → ℕ → StreamCheck → List ℕ → StreamCheck → List ℕ → FastResult
    → Type 0
IsFastCheck r limit old chunk new text (seen.Yes n) = IsVerdictNext r limit old chunk new n yes
IsFastCheck r limit old chunk new text (seen.No n) =
    IsVerdictNext r limit old chunk new n (no_in text)
IsFastCheck r limit old chunk new text seen.More =
    (new.kept.items ≡ old.kept.items ++ chunk) × IsStreamCheck (table_of r.table) limit new
IsFastCheck r limit old chunk new text seen.Inconclusive =
    (new.kept.items ≡ old.kept.items) × IsStreamCheck (table_of r.table) limit new

-- The state of the output before the kept bytes were taken: `has` holds for the bytes before the
-- kept bytes.
abbrev pub Later : List ℕ → Has → Has
Later kept has taken output = (before : List ℕ) × (taken ≡ before ++ kept) × has before output

-- The operation that reports the verdict on each value.
abbrev pub verdict_value_task : Bor Prepared → ℕ → ValueTask
verdict_value_task r limit = value_tasks.Print (printings.Report r queries.Verdict) limit

-- The reader waits for a value, and has taken no byte of the value.
abbrev pub IsBetween : Values → Type 0
IsBetween values =
    (limit : ℕ) (taken : List ℕ) → LeadsReader limit taken values.reader
    → EndsInput {U = Unit {0}} limit taken (Ok tt)

-- ---- a value that is written unchanged

-- The first `n` bytes are canonical, and encode a value of at most `limit` 64-bit words. The value
-- has the type and each of the type's closed instances.
pub record IsUnchanged (r : Prepared) (limit n : ℕ) (bytes : List ℕ) : Type 0 where
  pub within : n ≤ length bytes
  pub tree : Tree
  pub encoded : EncodedUnder limit (take n bytes) tree
  pub written : take n bytes ≡ canon tree
  pub has : HasType (declared_shapes r.decls) (objects_of tree 0) (root tree 0) r.ty
  pub each : HasEachInstance r.decls (objects_of tree 0) (root tree 0) r.ty

-- The first `n` bytes of the chunk satisfy `IsUnchanged`. No byte of the next value is kept.
pub record IsUnchangedNext (r : Prepared) (limit : ℕ) (chunk : List ℕ) (new : StreamCheck) (n : ℕ)
    : Type 0 where
  pub some : 0 < n
  pub unchanged : IsUnchanged r limit n chunk
  pub none : new.kept.items ≡ []
  pub stream_check : (table : Table) (limit' : ℕ) → IsStreamCheck table limit' new

-- The result of the streaming check on a chunk, if no bytes were kept before. The result is a value
-- that can be written unchanged, or that more bytes are needed, or that the check is inconclusive.
abbrev pub IsUnchangedFastCheck : Prepared → ℕ → List ℕ → StreamCheck → Unchanged → Type 0
IsUnchangedFastCheck r limit chunk new (unchanged.Whole n) = IsUnchangedNext r limit chunk new n
IsUnchangedFastCheck r limit chunk new unchanged.More =
    (new.kept.items ≡ chunk) × IsStreamCheck (table_of r.table) limit new
IsUnchangedFastCheck r limit chunk new unchanged.Inconclusive =
    (new.kept.items ≡ []) × IsStreamCheck (table_of r.table) limit new

-- No line edits value `k`, no line copies from value `k` into a later value, and `compat` is false.
pub record IsLeft (e : Edits) (k : ℕ) : Type 0 where
  pub compat : e.compat ≡ false
  pub lines : lines_of_value k e.script.now.lines ≡ []
  pub unused : IsUsedUpTo e.script.now.lines k k
