use Rattle.std.proofs.Common.{◌≤◌, length, length-append, ap, arith}
use Rattle.std.proofs.lemmas.List.Elements.{All-push, All-weaker}
use Rattle.base_data.specs.model.Graph.{IsValue}
use Rattle.marshal_heap.proofs.heap.HeapLemmas.{IsValue-more}
use Rattle.cmd_gen.specs.generator.Generated.{objects_of}
use Rattle.cmd_gen.proofs.generator.generated_value.GeneratedItems.add.Goals as goal

pub returns-clause-sound : goal.returns-clause-sound
returns-clause-sound c =
    let old = c.args.self.now.heap in
    let n = length c.add_item.new.heap in
    let more : length old ≤ n = omega (arith, ap length c.in_ok-v.ensures.objects, length-append old (objects_of (length old) c.deref.result.now c.draw_item-item.result)) in
    record {
      state = c.draw_item-item.ensures.range;
      values = rw c.in_ok-push.ensures.items (All-push (IsValue n) c.args.self.now.values.items c.in_ok-v.v
          (All-weaker (IsValue (length old)) (IsValue n) (λ v h. IsValue-more (length old) n v more h) c.args.self.now.values.items c.requires.values)
          c.in_ok-v.ensures.valid);
    }
