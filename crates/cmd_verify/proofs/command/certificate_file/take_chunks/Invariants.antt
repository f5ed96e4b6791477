use Rattle.std.proofs.Common.{ℕ, ◌≡◌, ◌-◌, ◌^◌, List, length}
use Rattle.cli_spec.specs.Outcome.{unasked}
use Rattle.base_io.specs.StreamState.{as_source, change}
use Rattle.run_spec.specs.runs.Given.{chunk_limit, Gathers}
use Rattle.run_spec.proofs.runs.RunTakeLemmas.{taken}
use Rattle.cert_format.specs.Coming.{HasCome}
use Rattle.cmd_verify.proofs.command.certificate_file.take_chunks.Given as goal

abbrev pub invariant-loop-taken : goal.invariant-loop-taken
invariant-loop-taken g l = record {
  room : length l.buffer ≡ chunk_limit;
  come : (bytes : List ℕ) × (l.taken ≡ length bytes) × HasCome l.reader bytes
      × Gathers (change (as_source (g.O.Opener.state l.initial.files)) (as_source (g.O.Opener.state l.files))) (taken bytes unasked);
  frame : g.O.Opener.state l.files ≡ record (g.O.Opener.state l.initial.files) {
    left = (g.O.Opener.state l.files).left;
    calls = (g.O.Opener.state l.files).calls;
  };
}

abbrev pub decreases-loop-taken : goal.decreases-loop-taken
decreases-loop-taken g l = 2 ^ 48 - l.taken
