use Rattle.marshal_write.proofs.write.LawLemmas.{written_is_read_lem}
use Rattle.marshal_write.proofs.write.laws.written_is_read.Goals as goal

pub returns : goal.returns
returns c = written_is_read_lem
