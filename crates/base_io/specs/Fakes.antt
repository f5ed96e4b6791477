-- Models of the fakes in memory: the bytes, and the numbers of the calls that fail.
use Rattle.std.specs.Prelude.{ℕ, ◌+◌, ◌<◌, ◌≤◌, min, Bool, List, [], map, drop, length}
use Rattle.std.specs.Prelude.{slice_index_or, Contains, Option, Some, None, IfSome, String}
use Rattle.std.specs.Prelude.{string_bytes, Vec}
use Rattle.std.specs.declared.alloc.Global.{Global}
use Rattle.base_io.specs.IoFaults.{last_count, count_after}
use Rattle.base_io.specs.Files.{File}
use Rattle.base_io.specs.History.{Event}
use Rattle.base_io.specs.StreamState.{ByteState, SourceState, FilesState}

-- The plan for one kind of call: the numbers of the calls that fail, the number of the next call,
-- and the number of failed calls.
pub record Plan : Type 0 where
  pub failing : List ℕ
  pub calls : ℕ
  pub faults : ℕ

-- The plan requires that the next call fails.
abbrev pub FailsNext : Plan → Type 0
FailsNext plan = Contains plan.failing plan.calls

-- The plan after one more call. `failed` states whether the call failed.
abbrev pub after_call : Plan → Bool → Plan
after_call plan failed = record {
  failing = plan.failing;
  calls = min (plan.calls + 1) last_count;
  faults = count_after plan.faults failed;
}

-- A plan for which no call was counted yet.
abbrev pub plan_of : List ℕ → Plan
plan_of failing = record { failing = failing; calls = 0; faults = 0 }

-- A source in memory: the remaining bytes, the maximum number of bytes that a call returns, the
-- plan of the calls, and the calls so far.
pub record SourceValue : Type 0 where
  pub left : List ℕ
  pub chunk : ℕ
  pub takes : Plan
  pub calls : List Event

-- A sink in memory: the bytes written, the capacity in bytes, and the plan of the calls.
pub record SinkValue : Type 0 where
  pub written : List ℕ
  pub room : ℕ
  pub writes : Plan

-- Files in memory: the names and bytes of the files, the remaining bytes of the file fetched last,
-- the name of the last failed fetch, and the calls so far.
pub record FilesValue : Type 0 where
  pub files : List File
  pub left : List ℕ
  pub fetches : Plan
  pub reads : Plan
  pub last_open_fault : Option (List ℕ)
  pub calls : List Event

-- ---- the states of the fakes as a source, a sink and files

abbrev pub source_state : SourceValue → SourceState
source_state source = record { bytes = Some source.left; calls = source.calls }

abbrev pub sink_state : SinkValue → ByteState
sink_state sink = record { bytes = Some sink.written; faults = sink.writes.faults }

abbrev pub files_state : FilesValue → FilesState
files_state files = record {
  map = Some files.files;
  left = Some files.left;
  calls = files.calls;
}

-- ---- the files of `MemFiles`

-- The files of `MemFiles`, as a list of pairs of a name and the bytes of the file.
abbrev pub files_of : List (String Global × Vec ℕ Global) → List File
files_of pairs = map (λ pair. (string_bytes pair.0, pair.1.items)) pairs

-- The bytes from `offset` to the end of the file at `index`. If there is no such file, the list is
-- empty.
abbrev pub left_at : List File → Option ℕ → ℕ → List ℕ
left_at files None offset = []
left_at files (Some index) offset = drop offset (slice_index_or files index ([], [])).1

-- If `index` is given, then `index` is the index of a file, and `offset` is at most the length of
-- the file.
abbrev pub IsWithin : List File → Option ℕ → ℕ → Type 0
IsWithin files index offset =
    IfSome index (λ k. (k < length files) × (offset ≤ length (slice_index_or files k ([], [])).1))
