use Rattle.std.proofs.Common.{[], refl, take}
use Rattle.std.proofs.lemmas.Bool.{not-true}
use Rattle.cmd_scan.proofs.sweep.SweepNextLemmas.{value_next, waits_next, refused_next}
use Rattle.cmd_scan.proofs.sweep.next_part.next_part.Goals as goal

pub returns-then-not-fed : goal.returns-then-not-fed
returns-then-not-fed c =
    waits_next c.args.limit c.args.at c.args.bytes.now c.args.text.now.items c.args.text.now.items
    c.feed.new.self c.in-Ok.fed (c.in-Ok.ensures.feeds c.args.limit [] c.new-reader.ensures.leads)
    (not-true c.in-Ok.fed.done c.if-not-fed.true) refl

pub returns-in-Err : goal.returns-in-Err
returns-in-Err c =
    refused_next c.args.limit c.args.at c.args.bytes.now c.args.text.now.items c.args.text.now.items
    c.in-Err.refusal c.pass.result c.requires.some refl
    (c.in-Err.ensures.refuses c.args.limit [] c.new-reader.ensures.leads) c.pass.ensures

pub returns-in_ok-write_value-in-Ok : goal.returns-in_ok-write_value-in-Ok
returns-in_ok-write_value-in-Ok c =
    let feeds = c.in-Ok.ensures.feeds c.args.limit [] c.new-reader.ensures.leads in
    value_next c.args.limit c.args.at c.args.bytes.now c.args.text.now.items
    c.write_value.new.text.items c.feed.new.self c.in-Ok.fed c.finish-value.result feeds
    (c.finish-value.ensures c.args.limit (take c.in-Ok.fed.taken c.args.bytes.now) feeds.leads)
    c.in_ok-write_value-in-Ok.ensures
