-- A run: the state of the environment, as far as it is known, before and after the call of `run`,
-- and the status.
use Rattle.std.specs.Prelude.{ℕ, List, ◌++◌, ◌≡◌, Some}
use Rattle.cli_spec.specs.declared.status.Status.{Status}
use Rattle.base_io.specs.StreamState.{ByteState, SourceState, FilesState, Change}

pub record Call : Type 0 where
  pub input : Change SourceState
  pub files : Change FilesState
  pub out : Change ByteState
  pub err : Change ByteState
  pub status : Status

abbrev pub call : Change SourceState → Change FilesState → Change ByteState → Change ByteState
    → Status → Call
call input files out err status =
    record { input = input; files = files; out = out; err = err; status = status }

-- The bytes in `out` are known, and the run appended the text `text`.
pub record HasWritten (call : Call) (text : List ℕ) : Type 0 where
  pub before : List ℕ
  pub had : call.out.before.bytes ≡ Some before
  pub has : call.out.after.bytes ≡ Some (before ++ text)
