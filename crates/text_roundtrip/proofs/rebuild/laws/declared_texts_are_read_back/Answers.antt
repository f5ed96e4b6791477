use Rattle.text_roundtrip.proofs.rebuild.LawLemmas.{declared_texts_are_read_back}
use Rattle.text_roundtrip.proofs.rebuild.laws.declared_texts_are_read_back.Goals as goal

pub returns : goal.returns
returns c = declared_texts_are_read_back
