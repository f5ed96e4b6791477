use Rattle.session.proofs.FastCheckLemmas.{yes_next, no_next}
use Rattle.session.proofs.fast_check.fast_check.Goals as goal

pub feed-requires : goal.feed-requires
feed-requires c = record { stream_check = rw c.table.ensures.same c.requires.stream_check }

pub returns-in-Typed : goal.returns-in-Typed
returns-in-Typed c =
    yes_next c.args.requested.now c.holds.ensures c.tables_decide.ensures.root c.tables_decide.ensures.decide c.args.limit c.args.stream_check.now c.args.chunk.now c.feed.new.self c.in-Typed.n
    (rw (c.table.ensures.same, c.in-Typed.is) at c.in_ok-answer.ensures)

pub returns-in_ok-write_missed_line-in-Missed : goal.returns-in_ok-write_missed_line-in-Missed
returns-in_ok-write_missed_line-in-Missed c =
    no_next c.args.requested.now c.args.limit c.args.stream_check.now c.args.chunk.now c.feed.new.self c.in-Missed.n (rw (c.table.ensures.same, c.in-Missed.is) at c.in_ok-answer.ensures) c.in-Some.found.now c.in-Some.ensures
    c.write_missed_line.new.line.items c.in_ok-write_missed_line-in-Missed.ensures

pub returns-in-More : goal.returns-in-More
returns-in-More c = rw (c.table.ensures.same, c.in-More.is) at c.in_ok-answer.ensures

pub returns-in-Inconclusive : goal.returns-in-Inconclusive
returns-in-Inconclusive c = rw (c.table.ensures.same, c.in-Inconclusive.is) at c.in_ok-answer.ensures
