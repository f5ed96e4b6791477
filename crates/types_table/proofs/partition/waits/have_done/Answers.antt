use Rattle.std.proofs.Common.{◌<◌, sym, ◌∙◌, arith}
use Rattle.std.specs.Vec.{vec_len}
use Rattle.base_data.proofs.model.Lists.{slice_get-read}
use Rattle.types_table.proofs.partition.PartitionLoopLemmas.{not_empty, positive, ready_more}
use Rattle.types_table.proofs.partition.waits.have_done.Goals as goal

pub returns-then-not-is_empty-clause-there : goal.returns-then-not-is_empty-clause-there
returns-then-not-is_empty-clause-there c =
    let v = c.index-waiting-class.result in
    let some : 0 < vec_len v = positive (vec_len v) (sym c.if-not-is_empty.true ∙ c.is_empty.ensures) in
    not_empty c.args.waiting.now c.args.todo.now.items c.args.class v c.requires.ready
    (slice_get-read c.args.waiting.now c.args.class v c.requires.within c.index-waiting-class.is) (omega arith)

pub returns-clause-ready : goal.returns-clause-ready
returns-clause-ready c = ready_more _ _ _ _ c.requires.ready c.requires.within c.in_ok-push.ensures.items
