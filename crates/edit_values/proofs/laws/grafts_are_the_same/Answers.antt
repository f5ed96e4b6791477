use Rattle.types_spec.specs.types.Equal.{Equal}
use Rattle.types_spec.specs.types.Shape.{shape}
use Rattle.edit_values.proofs.GraftLemmas.{has_graft}
use Rattle.edit_values.proofs.laws.grafts_are_the_same.Goals as goal

pub returns : goal.returns
returns c = λ decls t path other source graph root made is p part first second.
    has_graft (shape decls) (Equal decls) t path other source graph root made is p part first second
