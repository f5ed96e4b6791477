-- The items that are generated so far.
use Rattle.std.specs.Prelude.{◌^◌, ◌<◌, length, All}
use Rattle.base_data.specs.model.Graph.{IsValue}
use Rattle.cmd_gen.specs.generator.Generated.{MadeItems}
use Rattle.cmd_gen.specs.declared.generator.generated_value.GeneratedItems.{GeneratedItems}

-- The items of the code, as the items of the specification.
abbrev pub made_of : GeneratedItems → MadeItems
made_of items = record { all = items.heap; values = items.values.items; state = items.state }

-- The state is below 2^31, and the values of the items belong to the heap.
pub record AreSound (items : GeneratedItems) : Type 0 where
  pub state : items.state < 2 ^ 31
  pub values : All (IsValue (length items.heap)) items.values.items
