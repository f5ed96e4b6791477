use Rattle.text_literal.proofs.literal_grammar.LiteralGrammarPlacedLemmas.{stopped_lexed}
use Rattle.text_literal.proofs.literal_grammar.placed_nodes.stopped.Goals as goal

pub returns-in-Err : goal.returns-in-Err
returns-in-Err c prefix r = stopped_lexed c.args.text.now prefix c.args.span.first c.lexed.result (c.lexed.ensures c.args.text.now (c.in-Err.ensures prefix r))
