use Rattle.std.proofs.Common.{refl}
use Rattle.std.specs.Prelude.{slice_index}
use Rattle.trees.proofs.search_trees.SweepLemmas.{value_is_field}
use Rattle.trees.proofs.search_trees.tree_node.value_at.Goals as goal

pub returns-clause-field : goal.returns-clause-field
returns-clause-field c =
    value_is_field c.args.block.now.heap.now c.args.block.now.object c.args.i c.args.block.now.there c.requires.field
    c.args.words.now (slice_index c.args.words.now c.args.i) c.value_of.result
    c.count-count.ensures.heap.is_graph c.requires.words refl c.value_of.ensures.word
    c.value_of.ensures.valid
