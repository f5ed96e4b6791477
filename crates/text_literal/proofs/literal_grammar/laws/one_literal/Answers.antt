use Rattle.types_parse.proofs.grammar.LawLemmas.{one_tree}
use Rattle.text_literal.proofs.literal_grammar.LiteralTable.{literal_table}
use Rattle.text_literal.proofs.literal_grammar.laws.one_literal.Goals as goal

pub returns : goal.returns
returns c = one_tree literal_table
