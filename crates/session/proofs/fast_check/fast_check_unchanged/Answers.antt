use Rattle.std.proofs.Common.{◌∙◌}
use Rattle.types_table.specs.type_table.Made.{table_of}
use Rattle.session.proofs.FastCheckLemmas.{unchanged_next, only_kept}
use Rattle.session.proofs.fast_check.fast_check_unchanged.Goals as goal

pub feed-requires : goal.feed-requires
feed-requires c = record { stream_check = rw c.table.ensures.same c.requires.stream_check }

pub is_canonical_prefix-requires : goal.is_canonical_prefix-requires
is_canonical_prefix-requires c = (rw (c.table.ensures.same, c.in-Typed.is) at c.in_ok-answer.ensures).within

pub returns-then-is_canonical_prefix : goal.returns-then-is_canonical_prefix
returns-then-is_canonical_prefix c =
    unchanged_next c.args.requested.now c.holds.ensures c.tables_decide.ensures.root c.tables_decide.ensures.decide c.args.limit c.args.stream_check.now c.args.chunk.now c.feed.new.self c.in-Typed.n
    c.requires.none (rw (c.table.ensures.same, c.in-Typed.is) at c.in_ok-answer.ensures) c.if-is_canonical_prefix.ensures

pub returns-else-is_canonical_prefix : goal.returns-else-is_canonical_prefix
returns-else-is_canonical_prefix c =
    let typed = rw (c.table.ensures.same, c.in-Typed.is) at c.in_ok-answer.ensures in (typed.none, typed.stream_check (table_of c.args.requested.now.table) c.args.limit)

pub returns-in-More : goal.returns-in-More
returns-in-More c =
    let more = rw (c.table.ensures.same, c.in-More.is) at c.in_ok-answer.ensures in (only_kept c.args.stream_check.now c.feed.new.self c.args.chunk.now c.requires.none more.0, more.1)

pub returns-in-Inconclusive : goal.returns-in-Inconclusive
returns-in-Inconclusive c =
    let inconclusive = rw (c.table.ensures.same, c.in-Inconclusive.is) at c.in_ok-answer.ensures in (inconclusive.0 ∙ c.requires.none, inconclusive.1)

pub returns-in-Missed : goal.returns-in-Missed
returns-in-Missed c =
    let missed = rw (c.table.ensures.same, c.in-Missed.is) at c.in_ok-answer.ensures in (missed.none, missed.stream_check (table_of c.args.requested.now.table) c.args.limit)
