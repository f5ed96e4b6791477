use Rattle.text_literal.proofs.literal_grammar.LiteralGrammarReadLemmas.{Reached}
use Rattle.text_literal.proofs.literal_grammar.tree_parser.read.Given as goal

abbrev pub invariant-loop-position : goal.invariant-loop-position
invariant-loop-position l = Reached l.lexemes l.position l.so_far.nodes l.so_far.opens l.stage
