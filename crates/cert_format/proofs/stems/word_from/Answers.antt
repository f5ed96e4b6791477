use Rattle.cert_format.specs.PairRuns.{word_of}
use Rattle.cert_format.proofs.stems.word_from.Goals as goal

pub returns : goal.returns
unfolding word_of
returns c = c.from_le_bytes.ensures
