use Rattle.text_roundtrip.proofs.rebuild.LawLemmas.{literals_are_read_back}
use Rattle.text_roundtrip.proofs.rebuild.laws.literals_are_read_back.Goals as goal

pub returns : goal.returns
returns c = literals_are_read_back
