use Rattle.std.proofs.Common.{◌≡◌, ◌-◌, length, drop}
use Rattle.std.specs.Prelude.{All}
use Rattle.base_data.specs.model.Graph.{IsValue}
use Rattle.cmd_gen.specs.generator.Generated.{listed}
use Rattle.cmd_gen.proofs.generator.item_objects.add_list.Given as goal

abbrev pub invariant-loop-done : goal.invariant-loop-done
invariant-loop-done l = record {
  listed : (l.heap, l.list) ≡ listed l.fn.heap (drop (length l.values - l.done) l.values);
  valid : IsValue (length l.heap) l.list;
  values : All (IsValue (length l.heap)) l.values;
}
