use Rattle.text_roundtrip.proofs.rebuild.LawLemmas.{names_are_read_back}
use Rattle.text_roundtrip.proofs.rebuild.laws.names_are_read_back.Goals as goal

pub returns : goal.returns
returns c = names_are_read_back
