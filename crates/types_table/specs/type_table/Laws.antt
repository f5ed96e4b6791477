-- The theorem about tables of types.
use Rattle.std.specs.Prelude.{List}
use Rattle.types_spec.specs.declared.types.decl.Decl.{Decl}
use Rattle.types_spec.specs.types.Ty.{Ty}
use Rattle.types_spec.specs.types.WellFormed.{AreWellFormed, IsSoundType}
use Rattle.types_table.specs.declared.type_table.tabled.Tabled.{Tabled}
use Rattle.types_table.specs.type_table.Made.{table_of, IsTypeTable, IsLawful}

-- The table of a sound type over well-formed declarations is lawful: values can be checked against
-- the table.
abbrev pub MadeAreLawful : Type 0
MadeAreLawful =
    (decls : List Decl) (t : Ty) (table : Tabled) → AreWellFormed decls → IsSoundType decls t
    → IsTypeTable decls t table → IsLawful (table_of table)
