use Rattle.std.proofs.Common.{◌≡◌, ◌<◌, ◌≤◌, ◌-◌, ℕ, List, length}
use Rattle.cli_spec.specs.Outcome.{Output}
use Rattle.run_loop.specs.work.GatheredOutput.{GathersTo}
use Rattle.run_loop.proofs.work.gathered_output.gather.Given as goal

abbrev pub invariant-loop-taken : goal.invariant-loop-taken
invariant-loop-taken g l = record {
  kept : g.W.Work.act l.work ≡ g.W.Work.act l.fn.work;
  some : 0 < l.taken;
  fits : l.taken ≤ length l.buffered;
  so_far : (bytes : List ℕ) (output : List Output) → g.W.Work.has l.fn.work bytes output → GathersTo g.W.Work.commands (g.W.Work.act l.fn.work) (g.W.Work.has l.work) l.buffered l.taken l.text.bytes.items bytes output;
}

abbrev pub decreases-loop-taken : goal.decreases-loop-taken
decreases-loop-taken g l = length l.buffered - l.taken
