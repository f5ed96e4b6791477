use Rattle.std.proofs.Common.{◌≡◌, Option, IfOk, subst}
use Rattle.types_spec.specs.declared.types.names.Names.{Names}
use Rattle.types_spec.specs.types.Names.{sum_names}
use Rattle.types_spec.specs.types.Predeclared.{Sum}
use Rattle.types_build.proofs.representation.representation_names.names_of_sum.Goals as goal

pub returns-in-Some : goal.returns-in-Some
returns-in-Some c =
    subst (λ (known : Option Sum). IfOk c.names_of_row.result (λ (names : Names). names ≡ sum_names known))
    c.in-Some.ensures c.names_of_row.ensures

pub returns-in-None : goal.returns-in-None
returns-in-None c =
    subst (λ (known : Option Sum). c.no_names.result ≡ sum_names known) c.in-None.ensures c.no_names.ensures
