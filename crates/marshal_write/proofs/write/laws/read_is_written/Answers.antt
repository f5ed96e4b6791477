use Rattle.marshal_write.proofs.write.LawLemmas.{read_is_written_lem}
use Rattle.marshal_write.proofs.write.laws.read_is_written.Goals as goal

pub returns : goal.returns
returns c = read_is_written_lem
