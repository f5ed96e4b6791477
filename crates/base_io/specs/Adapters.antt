-- The parts of the adapters that contracts refer to: the reader or writer inside, the number of
-- failed calls, and the states as a source and a sink.
use Rattle.std.specs.Prelude.{ℕ, List, Some, None}
use Rattle.base_io.specs.History.{Event, bytes_of}
use Rattle.base_io.specs.StreamState.{ByteState, SourceState}
use Rattle.base_io.specs.declared.real.StdSource.{StdSource}
use Rattle.base_io.specs.declared.real.StdSink.{StdSink}

abbrev pub reader_of : {R : Type 0} → StdSource R → R
reader_of source = source.reader

abbrev pub read_faults_of : {R : Type 0} → StdSource R → ℕ
read_faults_of source = source.faults

abbrev pub writer_of : {W : Type 0} → StdSink W → W
writer_of sink = sink.writer

abbrev pub write_faults_of : {W : Type 0} → StdSink W → ℕ
write_faults_of sink = sink.faults

-- The state of a source whose remaining bytes are not known.
abbrev pub inconclusive : List Event → SourceState
inconclusive calls = record { bytes = None; calls = calls }

-- The state of a source that reads from a reader.
abbrev pub source_state : {R : Type 0} → StdSource R → SourceState
source_state source = inconclusive source.history.calls

-- The state of a sink that writes to a writer. The bytes are those that the calls moved.
abbrev pub sink_state : {W : Type 0} → StdSink W → ByteState
sink_state sink = record { bytes = Some (bytes_of sink.history.calls); faults = sink.faults }
