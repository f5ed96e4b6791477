use Rattle.text_roundtrip.proofs.readback.ReadbackDeclaredLemmas.{texts_are_read_back}
use Rattle.text_roundtrip.proofs.readback.laws.texts_are_read_back.Goals as goal

pub returns : goal.returns
returns c = texts_are_read_back
