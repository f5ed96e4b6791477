-- If no abbreviation is cyclic, then the names of abbreviations have ranks.
use Rattle.std.specs.Prelude.{ℕ, ◌≡◌, List, Some, Contains, false}
use Rattle.types_spec.specs.types.WellFormed.{names_outside, IsRanking}
use Rattle.types_spec.specs.types.Declarations.{abbreviated}
use Rattle.types_spec.specs.types.Occurrence.{DeclPositions, use_of}
use Rattle.types_spec.specs.types.Scope.{Rule, twice, unknown_name, cyclic, decls_of, BreaksInFile}
use Rattle.types_spec.specs.types.Ty.{Ty}

-- Each name that an abbreviation uses outside tag arguments is among the abbreviation's
-- occurrences.
abbrev pub UsesAreKnown : List DeclPositions → Type 0
UsesAreKnown all =
    (d : DeclPositions) (t : Ty) (name : List ℕ) → Contains all d → abbreviated d.decl.body ≡ Some t
    → Contains (names_outside t) name
    → (position : ℕ) × (arguments : List Ty)
    × Contains d.occurrences (use_of position name arguments false)

-- No lexeme breaks the rule `rule`.
abbrev pub Keeps : List DeclPositions → Rule → Type 0
Keeps all rule = (k : ℕ) → ¬ BreaksInFile all rule k

-- If names are declared once and are known, and no abbreviation is cyclic, then some rank of names
-- decreases with each use outside tag arguments.
abbrev pub RanksFollow : Type 0
RanksFollow =
    (all : List DeclPositions) → UsesAreKnown all → Keeps all twice → Keeps all unknown_name
    → Keeps all cyclic
    → (rank : List ℕ → ℕ) × IsRanking (decls_of all) rank
