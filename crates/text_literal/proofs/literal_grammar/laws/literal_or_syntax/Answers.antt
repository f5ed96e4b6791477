use Rattle.types_parse.proofs.grammar.LawLemmas.{text_or_syntax, no_syntax}
use Rattle.text_literal.proofs.literal_grammar.LiteralTable.{literal_table}
use Rattle.text_literal.proofs.literal_grammar.laws.literal_or_syntax.Goals as goal

pub returns : goal.returns
returns c = record { either = text_or_syntax literal_table; not_both = no_syntax literal_table }
