-- Declarations that break no scope rule are well-formed, and types that break no scope rule are
-- sound.
use Rattle.std.specs.Prelude.{◌≤◌, List, Contains}
use Rattle.types_spec.specs.declared.types.decl.Decl.{Decl}
use Rattle.types_spec.specs.types.WellFormed.{IsType, types_of_body, AreWellFormed, IsSoundType}
use Rattle.types_spec.specs.types.Occurrence.{Occurrence, DeclPositions}
use Rattle.types_spec.specs.types.Scope.{decls_of, BreaksInType, BreaksInFile, KeepsAll}
use Rattle.types_spec.specs.types.Ty.{Ty, depth}
use Rattle.types_wellformed.specs.accepted.Ranked.{UsesAreKnown}
use Rattle.types_wellformed.specs.accepted.KnownThings.{IsProper, ReportsAll, AllIsKnown}

-- The grammar can produce the type, and the type is at most 200 deep.
pub record IsWritten (t : Ty) : Type 0 where
  pub proper : IsProper t
  pub type : IsType t
  pub shallow : depth t ≤ 200

-- The occurrences of each declaration are complete, and the grammar can produce the declaration's
-- types.
pub record AreKnownWhole (all : List DeclPositions) : Type 0 where
  pub things : AllIsKnown all
  pub uses : UsesAreKnown all
  pub written : (d : DeclPositions) (t : Ty) → Contains all d
      → Contains (types_of_body d.decl.body) t
      → IsWritten t

abbrev pub AcceptedAreWellFormed : Type 0
AcceptedAreWellFormed =
    (all : List DeclPositions) → AreKnownWhole all → KeepsAll (BreaksInFile all)
    → AreWellFormed (decls_of all)

-- A type that breaks no rule over well-formed declarations is sound.
abbrev pub AcceptedTypesAreSound : Type 0
AcceptedTypesAreSound =
    (decls : List Decl) (occurrences : List Occurrence) (t : Ty) → AreWellFormed decls → IsProper t
    → IsType t → ReportsAll occurrences t
    → KeepsAll (BreaksInType decls occurrences) → IsSoundType decls t
