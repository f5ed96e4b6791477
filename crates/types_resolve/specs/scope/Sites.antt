-- The data that the code collects from a declaration, and the correspondence of the data to the
-- occurrences.
use Rattle.std.specs.Prelude.{ℕ, ◌≡◌, ◌⊎◌, ◌↔◌, Bool, IsTrue, List, length, Contains}
use Rattle.std.specs.Prelude.{Some, slice_get}
use Rattle.std.specs.List.{filter_map}
use Rattle.types_spec.specs.types.Ty.{Ty}
use Rattle.types_spec.specs.declared.types.decl.Decl.{Decl}
use Rattle.types_spec.specs.types.WellFormed.{IsVariable}
use Rattle.types_spec.specs.types.Occurrence.{Occurrence}
use Rattle.types_spec.specs.types.Occurrence.{Placed, PlacedItem, use_of, variable_at}
use Rattle.types_spec.specs.types.Occurrence.{bracket_of, DeclPositions}
use Rattle.types_spec.specs.types.Scope.{HoldsVariable, written_tag, decls_of, declared_names}
use Rattle.types_resolve.specs.declared.scope.site.TypeUse.{TypeUse}
use Rattle.types_resolve.specs.declared.scope.site.Site.{Site}
use Rattle.types_resolve.specs.declared.scope.site.TypeSite.{TypeSite}

-- Some argument contains a variable but is not a variable.
abbrev pub Grow : List Ty → Type 0
Grow arguments = (t : Ty) × Contains arguments t × HoldsVariable t × (¬ IsVariable t)

-- The use `u` states the number of its arguments, and whether some argument grows (`Grow`).
pub record HasArguments (u : TypeUse) (arguments : List Ty) : Type 0 where
  pub counted : u.arguments ≡ length arguments
  pub grow : IsTrue u.grows ↔ Grow arguments

-- The row contains the tags that some bracket among the occurrences writes.
abbrev pub IsTagRow : List Occurrence → List Placed → Type 0
IsTagRow occurrences row =
    (items : List PlacedItem) × Contains occurrences (bracket_of items)
    × (row ≡ filter_map written_tag items)

-- A row of names that must be distinct: the parameters, the constructors, the fields of a record,
-- or the tags that a bracket writes.
abbrev pub IsRow : DeclPositions → List Placed → Type 0
IsRow d row =
    (row ≡ d.parameters) ⊎ (row ≡ d.constructors) ⊎ Contains d.records row
    ⊎ IsTagRow d.occurrences row

-- `uses` contains exactly the uses of type names among the occurrences.
pub record AreUses (uses : List TypeUse) (occurrences : List Occurrence) : Type 0 where
  pub occur :
      (u : TypeUse) → Contains uses u
      → (arguments : List Ty) × HasArguments u arguments
      × Contains occurrences (use_of u.position u.name arguments u.in_tag)
  pub all :
      (position : ℕ) (name : List ℕ) (arguments : List Ty) (in_tag : Bool)
      → Contains occurrences (use_of position name arguments in_tag)
      → (u : TypeUse) × Contains uses u × HasArguments u arguments
      × (u.position ≡ position) × (u.name ≡ name) × (u.in_tag ≡ in_tag)

-- The site contains exactly the data of a declaration that the scope rules read.
pub record IsSite (site : Site) (d : DeclPositions) : Type 0 where
  pub rows : (row : List Placed) → Contains site.rows row → IsRow d row
  pub all_rows : (row : List Placed) → IsRow d row → Contains site.rows row
  pub carrying : site.carrying ≡ d.carrying
  pub used : AreUses site.uses d.occurrences
  pub variables :
      (position : ℕ) (name : List ℕ) → Contains site.variables (position, name)
      → Contains d.occurrences (variable_at position name)
  pub all_variables :
      (position : ℕ) (name : List ℕ) → Contains d.occurrences (variable_at position name)
      → Contains site.variables (position, name)

-- The site contains exactly the data of a type's text that the scope rules read.
pub record IsTypeSite (site : TypeSite) (occurrences : List Occurrence) : Type 0 where
  pub rows : (row : List Placed) → Contains site.rows row → IsTagRow occurrences row
  pub all_rows : (row : List Placed) → IsTagRow occurrences row → Contains site.rows row
  pub used : AreUses site.uses occurrences

-- The sites contain exactly the data of a file that the scope rules read, one site for each
-- declaration.
pub record AreSites (decls : List Decl) (names : List Placed) (sites : List Site)
    (all : List DeclPositions) : Type 0 where
  pub declares : decls ≡ decls_of all
  pub declared : names ≡ declared_names all
  pub counted : length sites ≡ length all
  pub stand :
      (i : ℕ) (site : Site) (d : DeclPositions) → slice_get sites i ≡ Some site
      → slice_get all i ≡ Some d → IsSite site d
