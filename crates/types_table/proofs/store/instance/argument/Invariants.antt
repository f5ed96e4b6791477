use Rattle.std.proofs.Common.{◌≡◌, List, drop}
use Rattle.types_spec.specs.types.Ty.{Ty}
use Rattle.types_table.specs.store.Instance.{argument_at}
use Rattle.types_table.proofs.store.instance.argument.Given as goal

abbrev pub invariant-loop-i : goal.invariant-loop-i
invariant-loop-i l =
    (types : List Ty)
    → argument_at types l.parameters l.arguments l.name
    ≡ argument_at types (drop l.i l.parameters) (drop l.i l.arguments) l.name
