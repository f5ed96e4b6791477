use Rattle.std.proofs.Common.{◌≡◌, ◌-◌, ◌^◌, vec_len}
use Rattle.cli_spec.specs.Outcome.{unasked}
use Rattle.base_io.specs.StreamState.{as_source, change}
use Rattle.run_spec.specs.runs.Given.{Gathers}
use Rattle.run_spec.proofs.runs.RunTakeLemmas.{taken}
use Rattle.run_types.proofs.fetch.gather_file.Given as goal

abbrev pub invariant-loop-buffer : goal.invariant-loop-buffer
invariant-loop-buffer g l = record {
  took : Gathers (change (as_source (g.O.Opener.state l.initial.files)) (as_source (g.O.Opener.state l.files))) (taken l.bytes.items unasked);
  frame : g.O.Opener.state l.files ≡ record (g.O.Opener.state l.initial.files) {
    left = (g.O.Opener.state l.files).left;
    calls = (g.O.Opener.state l.files).calls;
  };
}

abbrev pub decreases-loop-buffer : goal.decreases-loop-buffer
decreases-loop-buffer g l = 2 ^ 48 - vec_len l.bytes
