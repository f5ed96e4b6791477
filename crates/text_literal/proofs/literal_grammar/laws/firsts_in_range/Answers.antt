use Rattle.text_literal.proofs.literal_grammar.RangeLemmas.{firsts_in}
use Rattle.text_literal.proofs.literal_grammar.laws.firsts_in_range.Goals as goal

pub returns : goal.returns
returns c = firsts_in
