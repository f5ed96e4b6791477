use Rattle.std.proofs.Common.{◌-◌, length}
use Rattle.text_literal.proofs.literal_grammar.LiteralGrammarPlacedLemmas.{Prefix}
use Rattle.text_literal.proofs.literal_grammar.placed_nodes.read_at.Given as goal

abbrev pub invariant-loop-at : goal.invariant-loop-at
invariant-loop-at l = Prefix l.text l.at l.positions.items l.so_far.nodes l.so_far.opens l.stage

abbrev pub decreases-loop-at : goal.decreases-loop-at
decreases-loop-at l = length l.text - l.at
