-- What each `TypeFault` states about a type.
use Rattle.std.specs.Prelude.{List}
use Rattle.types_spec.specs.declared.types.decl.Decl.{Decl}
use Rattle.types_spec.specs.types.Ty.{Ty}
use Rattle.types_spec.specs.types.Reached.{ReachesTooMany}
use Rattle.types_build.specs.declared.builder.type_fault.TypeFault.{TypeFault}
use Rattle.types_build.specs.declared.builder.type_fault.TypeFault.TheVariants.{TooManyTypes}
use Rattle.types_build.specs.declared.builder.type_fault.TypeFault.TheVariants.{Memory}

-- `TooManyTypes` means that the type reaches more types than a table can hold. `Memory` has no
-- condition.
abbrev pub IsTypeFault : List Decl → Ty → TypeFault → Type 0
IsTypeFault decls t TooManyTypes = ReachesTooMany decls t
IsTypeFault decls t Memory = Unit {0}
