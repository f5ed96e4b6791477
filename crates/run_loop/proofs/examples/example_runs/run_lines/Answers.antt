use Rattle.run_loop.proofs.examples.LinesLemmas.{lines_begin}
use Rattle.run_loop.proofs.examples.example_runs.run_lines.Goals as goal

pub run_reported-requires : goal.run_reported-requires
run_reported-requires g c = lines_begin c.new.result.rest.items c.new.ensures
