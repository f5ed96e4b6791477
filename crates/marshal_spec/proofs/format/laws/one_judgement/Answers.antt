use Rattle.marshal_spec.proofs.format.JudgementLaws.{one_judgement_lem}
use Rattle.marshal_spec.proofs.format.laws.one_judgement.Goals as goal

pub returns : goal.returns
returns c = one_judgement_lem
