use Rattle.marshal_spec.proofs.format.EncodingLaws.{no_encoding_begins_another_lem}
use Rattle.marshal_spec.proofs.format.laws.no_encoding_begins_another.Goals as goal

pub returns : goal.returns
returns c = no_encoding_begins_another_lem
