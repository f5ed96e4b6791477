-- Kinds of types, by the predeclared name at the head.
use Rattle.std.specs.Prelude.{Bool, true, false, List, Option, Some, None}
use Rattle.types_spec.specs.declared.types.decl.Predeclared.{Predeclared}
use Rattle.types_spec.specs.declared.types.decl.Predeclared.TheVariants as bases
use Rattle.types_spec.specs.declared.types.decl.Decl.{Decl}
use Rattle.types_spec.specs.declared.types.head.HeadOf.{HeadOf}
use Rattle.types_spec.specs.declared.types.head.HeadOf.TheVariants as heads
use Rattle.types_spec.specs.types.Ty.{Ty}
use Rattle.types_spec.specs.types.Head.{head}

-- The predeclared type has a representation of its own.
abbrev pub IsBase : Predeclared → Type 0
IsBase (bases.Sum k) = ⊥
IsBase base = Unit {0}

abbrev pub base_of_head : HeadOf Ty → Option Predeclared
base_of_head (heads.Predeclared base ts) = Some base
base_of_head other = None

-- The predeclared name to which a type expands, without its arguments. `None` if the type does not
-- expand to a predeclared name.
abbrev pub base_of : List Decl → Ty → Option Predeclared
base_of decls t = base_of_head (head decls t)

abbrev pub is_float_base : Option Predeclared → Bool
is_float_base (Some bases.Float) = true
is_float_base other = false

abbrev pub is_wildcard_base : Option Predeclared → Bool
is_wildcard_base (Some bases.Any) = true
is_wildcard_base other = false
