use Rattle.marshal_spec.proofs.canonical.CanonLemmas.{canon_encodes_lem}
use Rattle.marshal_spec.proofs.canonical.laws.canon_encodes.Goals as goal

pub returns : goal.returns
returns c = canon_encodes_lem
