use Rattle.std.proofs.Common.{[]}
use Rattle.types_table.specs.type_table.Made.{table_of}
use Rattle.session.proofs.ProgressLemmas.{fresh_checked, read_taken}
use Rattle.session.proofs.session_state.SessionState.new.Goals as goal

pub returns-clause-has : goal.returns-clause-has
returns-clause-has c =
    let checked = fresh_checked c.args.value_task c.new.result c.new-2.result c.new-2.ensures.none (λ r limit. c.new-2.ensures.stream_check (table_of r.now.table) limit) in
    read_taken c.args.value_task c.new.result c.new-2.result [] [] c.new-2.ensures.none checked c.new.ensures
