use Rattle.types_table.specs.type_table.Made.{table_of}
use Rattle.check_heap.proofs.check.SeenLemmas.{none_taken}
use Rattle.check_heap.proofs.check.decide.search_whole.Goals as goal

pub search_object-requires-clause-taken : goal.search_object-requires-clause-taken
search_object-requires-clause-taken c = none_taken (table_of c.args.table.now) c.args.heap.now c.in_ok-none.none c.in_ok-none.ensures.none
