use Rattle.std.proofs.Common.{refl}
use Rattle.run_loop.proofs.examples.example_runs.run_reporting.Goals as goal

pub run_reported-requires : goal.run_reported-requires
run_reported-requires g c = (refl, refl)
