use Rattle.marshal_read.proofs.ReaderLemmas.{chunks_done, finishes}
use Rattle.marshal_read.proofs.reader.Reader.finish.Goals as goal

pub returns : goal.returns
returns c = λ limit taken h.
    finishes limit taken c.args.self.chunks.reading.builder c.finish.result
    (chunks_done limit taken c.args.self.chunks h.bytes h.chunks c.requires.done.1) c.finish.ensures.heap c.finish.ensures.root
