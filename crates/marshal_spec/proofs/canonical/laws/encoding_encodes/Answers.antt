use Rattle.marshal_spec.proofs.canonical.EncodingLemmas.{encoding_encodes_lem}
use Rattle.marshal_spec.proofs.canonical.laws.encoding_encodes.Goals as goal

pub returns : goal.returns
returns c = encoding_encodes_lem
