use Rattle.std.proofs.Common.{refl}
use Rattle.cmd_scan.proofs.command.LastLemmas.{chunk_taken, chunk_found}
use Rattle.cmd_scan.proofs.command.last.read_some.Goals as goal

pub returns-in-Ok-clause-some : goal.returns-in-Ok-clause-some
returns-in-Ok-clause-some c =
    chunk_taken c.args.limit c.args.held.now c.args.chunk.now c.feed.new.self c.in-Ok.fed _
    c.requires.some c.requires.prefix
    (c.in-Ok.ensures.feeds c.args.limit c.args.held.now c.requires.leads) refl refl

pub returns-in_ok-bytes-in-Err-clause-some : goal.returns-in_ok-bytes-in-Err-clause-some
returns-in_ok-bytes-in-Err-clause-some c =
    chunk_found c.args.limit c.args.held.now c.args.chunk.now c.feed.new.self _
    c.in_ok-bytes-in-Err.ensures refl

pub returns-in-Ok-clause-whole : goal.returns-in-Ok-clause-whole
returns-in-Ok-clause-whole c = λ done.
    let feeds = c.in-Ok.ensures.feeds c.args.limit c.args.held.now c.requires.leads in
    (c.in-Ok.ensures.reader, (feeds.done done).0, feeds.leads)
