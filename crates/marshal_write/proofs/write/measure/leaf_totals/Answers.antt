use Rattle.std.proofs.Common.{◌∙◌, arith}
use Rattle.std.proofs.lemmas.Grind.{common_steps}
use Rattle.marshal_heap.specs.heap.Heap.{object_at, doubles_of}
use Rattle.marshal_write.proofs.write.WriterSumLemmas.{doubles_totals}
use Rattle.marshal_write.proofs.write.measure.leaf_totals.Goals as goal

pub returns-in-Doubles : goal.returns-in-Doubles
returns-in-Doubles c =
    c.of_object-in-Doubles.ensures
    ∙ doubles_totals (object_at c.args.heap.now c.args.k) (doubles_of (object_at c.args.heap.now c.args.k)) _ c.in-Doubles.n c.in-Doubles.ensures.object.0 c.in-Doubles.ensures.object.1
    (grind (arith, common_steps))
