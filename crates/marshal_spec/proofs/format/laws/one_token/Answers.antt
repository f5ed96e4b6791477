use Rattle.marshal_spec.proofs.format.EncodingLaws.{one_token_lem}
use Rattle.marshal_spec.proofs.format.laws.one_token.Goals as goal

pub returns : goal.returns
returns c = one_token_lem
