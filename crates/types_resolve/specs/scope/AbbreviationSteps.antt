-- The steps from one abbreviation to another abbreviation, by the indices of declarations.
use Rattle.std.specs.Prelude.{ℕ, ◌≡◌, ◌↔◌, false, List, length, Some, IsSome, Contains, slice_get}
use Rattle.types_spec.specs.declared.types.decl.Decl.{Decl}
use Rattle.types_spec.specs.types.Declarations.{abbreviated}
use Rattle.types_resolve.specs.declared.scope.site.TypeUse.{TypeUse}
use Rattle.types_resolve.specs.declared.scope.site.Site.{Site}
use Rattle.types_resolve.specs.scope.Breaks.{names_of_decls}
use Rattle.types_resolve.specs.scope.StepGraph.{AdjacencyLists, IsEdge}
use Rattle.types_resolve.specs.scope.NamePositions.{IsFirstPosition}

-- The use is outside tag arguments and names `other`, which is an abbreviation of the group
-- `group`.
pub record IsStepTo (group : ℕ) (u : TypeUse) (other : Decl) : Type 0 where
  pub outside : u.in_tag ≡ false
  pub one_group : other.group ≡ group
  pub abbreviates : IsSome (abbreviated other.body)

-- A use in a declaration of the group `group` is a step to declaration `j`.
abbrev pub LeadsTo : List Decl → ℕ → TypeUse → ℕ → Type 0
LeadsTo decls group u j =
    IsFirstPosition (names_of_decls decls) (length decls) u.name j
    × (other : Decl) × (slice_get decls j ≡ Some other) × IsStepTo group u other

-- The declaration `d` is an abbreviation, and one of its uses is a step to declaration `j`.
abbrev pub HasStep : List Decl → Decl → List TypeUse → ℕ → Type 0
HasStep decls d uses j =
    IsSome (abbreviated d.body) × (u : TypeUse) × Contains uses u × LeadsTo decls d.group u j

-- The edges of the graph are exactly the steps between declarations.
pub record IsStepGraph (decls : List Decl) (sites : List Site)
    (graph : AdjacencyLists) : Type 0 where
  pub counted : length graph ≡ length decls
  pub edges :
      (i j : ℕ) (d : Decl) (site : Site) → slice_get decls i ≡ Some d
      → slice_get sites i ≡ Some site → IsEdge graph i j ↔ HasStep decls d site.uses j
