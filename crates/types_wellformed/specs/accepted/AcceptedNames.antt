-- If no rule on names is broken, then the names in each declared type are known and have the right
-- number of arguments. The variables of each declared type are parameters.
use Rattle.std.specs.Prelude.{◌≡◌, List, None, Contains}
use Rattle.types_spec.specs.types.WellFormed.{types_of_body, TakeArguments, VariablesAmong}
use Rattle.types_spec.specs.types.Declarations.{predeclared}
use Rattle.types_spec.specs.types.Occurrence.{DeclPositions}
use Rattle.types_spec.specs.types.Scope.{twice, unknown_name, arity, unbound_variable, decls_of}
use Rattle.types_spec.specs.types.Ty.{Ty}
use Rattle.types_wellformed.specs.accepted.Ranked.{Keeps}
use Rattle.types_wellformed.specs.accepted.KnownThings.{IsProper, AllIsKnown}

pub record NamesAreSound (all : List DeclPositions) : Type 0 where
  pub new_names : (d : DeclPositions) → Contains all d → predeclared d.decl.name ≡ None
  pub arguments :
      (d : DeclPositions) (t : Ty) → Contains all d → Contains (types_of_body d.decl.body) t
      → IsProper t → TakeArguments (decls_of all) 0 t
  pub variables :
      (d : DeclPositions) (t : Ty) → Contains all d → Contains (types_of_body d.decl.body) t
      → IsProper t → VariablesAmong d.decl.parameters t

abbrev pub NamesFollow : Type 0
NamesFollow =
    (all : List DeclPositions) → AllIsKnown all → Keeps all twice → Keeps all unknown_name
    → Keeps all arity → Keeps all unbound_variable
    → NamesAreSound all
