use Rattle.types_table.specs.type_table.Made.{table_of}
use Rattle.check_stream.specs.checker.OpenPositions.{need_of}
use Rattle.check_stream.proofs.checker.Weaker.{if_true}
use Rattle.check_stream.proofs.checker.CheckerTakeLemmas.{took_prefix}
use Rattle.check_stream.proofs.checker.checker_step.step.Goals as goal

pub returns-then-branch : goal.returns-then-branch
returns-then-branch c =
    let by = c.in-Token.ensures.0 in
    let took = if_true c.in_ok-take_summary.field-0 c.if-branch.true c.in_ok-take_summary.ensures in
    (by.some, took_prefix (table_of c.args.table.now) c.args.stated c.args.state.now c.take_summary.new.state (need_of c.args.asked) c.args.rest.now c.in-Token.summary c.in-Token.len by took)
