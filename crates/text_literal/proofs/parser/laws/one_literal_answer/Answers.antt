use Rattle.text_literal.proofs.parser.LiteralParserAnswerLemmas.{one_answer}
use Rattle.text_literal.proofs.parser.laws.one_literal_answer.Goals as goal

pub returns : goal.returns
returns c = one_answer
