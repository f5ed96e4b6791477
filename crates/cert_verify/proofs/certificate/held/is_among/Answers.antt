use Rattle.std.proofs.Common.{◌<◌, ◌≤◌, ◌+◌, length, arith}
use Rattle.types_table.specs.type_table.Made.{table_of}
use Rattle.cert_verify.proofs.certificate.EntryHeldLemmas.{frequent_reports}
use Rattle.cert_verify.proofs.certificate.held.is_among.Goals as goal

pub returns : goal.returns
returns c =
    let stop : c.few_end-end.result ≤ c.loop-at.at = c.loop-at-test.false in
    let far : c.loop-at.at < length c.args.pairs.now → c.start_of-start.result + 16 ≤ c.loop-at.at =
    λ less. let more = c.few_end-end.ensures.far (omega (arith, less, stop, c.len-many.ensures.count)) in omega (arith, more, stop) in
    frequent_reports (table_of c.args.table.now) c.args.pairs.now c.len-many.ensures.increasing c.args.frequent.now c.args.object c.args.ty c.class-class.result
    c.start_of-start.result c.loop-at.at c.contains.result c.requires.frequent c.class-class.ensures c.start_of-start.ensures c.loop-at.invariant far
    c.contains.ensures
