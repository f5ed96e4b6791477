use Rattle.marshal_read.proofs.ReaderLemmas.{chunks_done, finishes}
use Rattle.marshal_read.proofs.reader.Reader.borrow.Goals as goal

pub returns : goal.returns
returns c = λ limit taken h.
    finishes limit taken c.args.self.now.chunks.reading.builder (record { heap = c.borrow.result.heap.now; root = c.borrow.result.root })
    (chunks_done limit taken c.args.self.now.chunks h.bytes h.chunks c.requires.done.1) c.borrow.ensures.heap c.borrow.ensures.root
