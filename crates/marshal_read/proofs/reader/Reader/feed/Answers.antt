use Rattle.base_data.proofs.model.Numbers.{are_bytes}
use Rattle.marshal_read.proofs.ReaderLemmas.{feeds_from, as_within}
use Rattle.marshal_read.proofs.reader.Reader.feed.Goals as goal

pub returns-in-Ok-clause-feeds : goal.returns-in-Ok-clause-feeds
returns-in-Ok-clause-feeds c = λ limit taken h.
    feeds_from limit taken c.args.chunk.now _ c.in-Ok.taken c.is_done.result h.bytes (are_bytes c.args.chunk.now c.type_inv.chunk) h.reads
    (c.in-Ok.ensures limit taken h.chunks) c.is_done.ensures

pub returns-in-Ok-clause-within : goal.returns-in-Ok-clause-within
returns-in-Ok-clause-within c = λ limit taken h.
    let new = c.feed.new.self in
    let t = c.in-Ok.ensures limit taken h.chunks in
    as_within new.reading.totals limit _ new.reading.builder new.part.items t.1.1
