use Rattle.types_lex.proofs.PartLaws.{has_one_outcome}
use Rattle.types_lex.proofs.lexer.one_outcome.Goals as goal

pub returns : goal.returns
returns c = has_one_outcome
