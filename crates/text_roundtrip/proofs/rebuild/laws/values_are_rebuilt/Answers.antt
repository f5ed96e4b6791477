use Rattle.text_roundtrip.proofs.rebuild.RebuiltLemmas.{values_are_rebuilt}
use Rattle.text_roundtrip.proofs.rebuild.laws.values_are_rebuilt.Goals as goal

pub returns : goal.returns
returns c = values_are_rebuilt
