use Rattle.marshal_read.proofs.ReaderLemmas.{chunks_done, root_is_there}
use Rattle.marshal_read.proofs.chunks.Chunks.borrow.Goals as goal

pub borrow-requires : goal.borrow-requires
borrow-requires c =
    let h = c.requires.leads in
    root_is_there h.0 h.1 c.args.self.now.reading.builder (chunks_done h.0 h.1 c.args.self.now h.2 h.3 c.requires.whole)
