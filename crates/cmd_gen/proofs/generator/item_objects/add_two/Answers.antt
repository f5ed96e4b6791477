use Rattle.std.proofs.Common.{[], ◌∷◌}
use Rattle.std.proofs.lemmas.List.Elements.{All-cons, All-nil}
use Rattle.marshal_heap.specs.heap.Heap.{IsFieldWord}
use Rattle.cmd_gen.proofs.generator.item_objects.add_two.Goals as goal

pub add_block_of-requires-clause-valid : goal.add_block_of-requires-clause-valid
add_block_of-requires-clause-valid c =
    let P = IsFieldWord c.args.heap.now in
    All-cons P c.word.result (c.word-2.result ∷ []) (c.args.v, c.requires.first, c.word.ensures)
    (All-cons P c.word-2.result [] (c.args.w, c.requires.second, c.word-2.ensures) (All-nil P))
