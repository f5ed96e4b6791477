-- Values that have a type of a table, by its number.
use Rattle.std.specs.Prelude.{ℕ, ◌<◌, List, length}
use Rattle.base_data.specs.declared.model.value.Val.{Val}
use Rattle.base_data.specs.declared.model.value.Obj.{Obj}
use Rattle.types_spec.specs.types.Table.{Table, table_shapes}
use Rattle.types_spec.specs.types.Typing.{IsHeld, IsTyping}

-- The value matches the type with number `at`, and a typing of the graph lists the value.
pub record IsTypedAt (table : Table) (graph : List Obj) (v : Val) (at : ℕ) : Type 0 where
  pub number : at < length table.nodes
  pub pairs : List (ℕ × ℕ)
  pub typing : IsTyping (table_shapes table) graph pairs
  pub held : IsHeld (table_shapes table) graph pairs v at
