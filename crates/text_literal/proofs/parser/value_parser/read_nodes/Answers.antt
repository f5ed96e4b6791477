use Rattle.std.proofs.Common.{arith, sym, ap, ◌∙◌, subst}
use Rattle.std.specs.Prelude.{ℕ, List, length}
use Rattle.text_literal.specs.parser.SubtreeEnds.{AreEnds}
use Rattle.text_literal.proofs.parser.LiteralParserReadLemmas.{tree_answers}
use Rattle.text_literal.proofs.parser.value_parser.read_nodes.Goals as goal

pub read_tree-requires-clause-text : goal.read_tree-requires-clause-text
read_tree-requires-clause-text c = record {
  many = ap (λ (ends : List ℕ). length ends) c.as_slice.ensures.value ∙ c.in_ok-ends.ensures.len;
  few = omega (arith, c.len-few.ensures.few, c.len-few.ensures.count);
  ends = subst (AreEnds c.args.tree.now) (sym c.as_slice.ensures.value) (λ j k v at. c.in_ok-ends.ensures.ends j k v at);
}

pub returns : goal.returns
returns c =
    tree_answers (record { table = c.args.table; lexemes = c.args.lexemes; nodes = c.args.tree; ends = c.as_slice.result; end = c.args.end }) c.args.at c.args.heap.now c.read_tree.new.heap
    c.read_tree.result c.requires.tree c.read_tree.ensures
