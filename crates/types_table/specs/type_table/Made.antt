-- The contents and the invariants of a table of types.
use Rattle.std.specs.Prelude.{◌<◌, ◌≤◌, ◌≡◌, List, length, map, All}
use Rattle.types_spec.specs.declared.types.decl.Decl.{Decl}
use Rattle.types_spec.specs.types.Ty.{Ty}
use Rattle.types_spec.specs.types.TypeNodes.{type_at}
use Rattle.types_spec.specs.types.LawfulShapes.{AreLawful, Everything}
use Rattle.types_spec.specs.types.Names.{names_of}
use Rattle.types_spec.specs.types.Reached.{IsReached, named_in}
use Rattle.types_spec.specs.types.Table.{Table, table_shapes, IsTableOf}
use Rattle.types_table.specs.declared.type_table.tabled.Tabled.{Tabled}

-- The types of a table, in the order of their numbers.
abbrev pub types_of : Tabled → List Ty
types_of t = map (type_at t.store) t.stored

-- The shapes and the classes of a table.
abbrev pub table_of : Tabled → Table
table_of t = record { nodes = t.nodes; classes = t.classes }

-- `table` is the table of the types that `t` reaches over the declarations. A table has at most
-- 65,536 types.
pub record IsTypeTable (decls : List Decl) (t : Ty) (table : Tabled) : Type 0 where
  pub within : All (λ i. i < length table.store) table.stored
  pub reached : IsReached decls t (types_of table)
  pub made : IsTableOf decls (types_of table) (table_of table)
  pub named : table.names ≡ map (names_of decls) (types_of table)
  pub few : length table.stored ≤ 65536

-- A table against which values can be checked: types of one class have the same meaning, and each
-- shape refers only to numbers of the table.
pub record IsLawful (table : Table) : Type 0 where
  pub lawful : AreLawful (table_shapes table) Everything
  pub rooted : 0 < length table.nodes
  pub closed : All (λ node. All (λ i. i < length table.nodes) (named_in node)) table.nodes
  pub classed : length table.classes ≡ length table.nodes

-- The invariant of each `TypeTable`: values can be checked against the table, and each type has
-- names and a number of the store.
pub record IsCheckable (table : Tabled) : Type 0 where
  pub lawful : IsLawful (table_of table)
  pub named : length table.names ≡ length table.nodes
  pub numbered : length table.stored ≡ length table.nodes
  pub within : All (λ i. i < length table.store) table.stored
