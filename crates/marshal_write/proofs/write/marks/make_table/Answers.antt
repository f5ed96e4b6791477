use Rattle.std.proofs.Common.{[], ◌∷◌, ◌++◌, ◌∙◌, ap, sym, arith}
use Rattle.marshal_write.specs.write.Marks.{in_order}
use Rattle.marshal_write.proofs.write.WriterMarkLemmas.{in_order-push}
use Rattle.marshal_write.proofs.write.marks.make_table.Goals as goal

pub loop-k-preserved : goal.loop-k-preserved
loop-k-preserved c = record {
  items = c.push_reserved.ensures.items ∙ ap (λ ms. ms ++ c.mark_of.result ∷ []) c.loop-k.invariant.items
      ∙ ap (λ m. in_order c.args.met c.loop-k.k ++ m ∷ []) c.mark_of.ensures ∙ sym (in_order-push c.args.met c.loop-k.k);
  many = omega (arith, c.push_reserved.ensures.len, c.loop-k.invariant.many);
  room = omega (arith, c.push_reserved.ensures.capacity, c.loop-k.invariant.room);
}
