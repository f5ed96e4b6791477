use Rattle.std.proofs.Common.{List, subst, sym}
use Rattle.types_spec.specs.declared.types.decl.Decl.{Decl}
use Rattle.types_resolve.specs.scope.Sites.{AreSites}
use Rattle.types_resolve.proofs.scope.first_name_rule.first_break.Goals as goal

pub first_of_file-requires : goal.first_of_file-requires
first_of_file-requires g c =
    subst (λ (ds : List Decl). AreSites ds c.args.names.now c.args.sites.now g.all)
    (sym c.in_ok-environment.ensures) c.requires
