use Rattle.std.proofs.Common.{ℕ, List, length, subst, sym}
use Rattle.types_spec.specs.declared.types.head.HeadOf.{HeadOf}
use Rattle.types_spec.specs.types.Classes.{PartsBelow}
use Rattle.types_spec.specs.types.Table.{head_at}
use Rattle.types_build.proofs.builder.reached_types.finished.Goals as goal

pub classes-requires : goal.classes-requires
classes-requires c =
    subst (λ (hs : List (HeadOf ℕ)). PartsBelow (length hs) (head_at hs)) (sym c.as_slice.ensures.value) c.requires
