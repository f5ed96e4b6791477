use Rattle.types_table.specs.type_table.Made.{table_of}
use Rattle.check_stream.proofs.mismatch_search.ComesLemmas.{runs_fast_by}
use Rattle.check_stream.proofs.mismatch_search.mismatch.Finding.fast_kind.Goals as goal

pub returns : goal.returns
returns c = runs_fast_by (table_of c.args.table.now) c.args.rest.now c.args.self.now c.settle.new.self c.in-Token.summary c.in-Token.len c.in_ok-fast.fast c.in-Token.ensures.0 c.in_ok-fast.ensures
