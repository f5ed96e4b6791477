-- The bounds on the numbers of a kind are a proposition: two proofs of the bounds are equal.
use Rattle.std.specs.Coded.{×_prop, Unit-prop, le_prop}
use Rattle.base_data.specs.declared.model.code.CodeKind.{CodeKind}
use Rattle.base_data.specs.declared.model.code.CodeKind.TheVariants as kinds
use Rattle.marshal_spec.specs.format.Code.{IsKind}

pub IsKind-prop : (kind : CodeKind) → IsProp (IsKind kind)
IsKind-prop (kinds.SmallBlock tag size) = ×_prop le_prop le_prop
IsKind-prop (kinds.SmallInt n) = le_prop
IsKind-prop (kinds.SmallString n) = le_prop
IsKind-prop (kinds.Int width) = ×_prop le_prop le_prop
IsKind-prop (kinds.Shared width) = ×_prop le_prop le_prop
IsKind-prop (kinds.Block width) = ×_prop le_prop le_prop
IsKind-prop (kinds.Str width) = ×_prop le_prop le_prop
IsKind-prop (kinds.Double little) = Unit-prop
IsKind-prop (kinds.Doubles width little) = ×_prop le_prop le_prop
IsKind-prop (kinds.Custom old) = Unit-prop
