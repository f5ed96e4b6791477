-- If no rule on polymorphic variants is broken, then each polymorphic variant type in a declaration
-- is correct. A correct polymorphic variant type includes only polymorphic variant types, and its
-- distinct tags have distinct hashes.
use Rattle.std.specs.Prelude.{◌≡◌, List, None, Contains}
use Rattle.types_spec.specs.declared.types.decl.Decl.{Decl}
use Rattle.types_spec.specs.types.WellFormed.{types_of_body, HasSoundBrackets}
use Rattle.types_spec.specs.types.Declarations.{unfolded}
use Rattle.types_spec.specs.types.Head.{plain_head, head}
use Rattle.types_spec.specs.types.Occurrence.{DeclPositions}
use Rattle.types_spec.specs.types.Scope.{not_variant, hash_clash, decls_of}
use Rattle.types_spec.specs.types.Ty.{Ty}
use Rattle.types_wellformed.specs.accepted.Ranked.{Keeps}
use Rattle.types_wellformed.specs.accepted.KnownThings.{IsProper, AllIsKnown}

-- If a type has no expansion, then the head of the type is the written head. The property holds if
-- abbreviations have ranks.
abbrev pub HeadsArePlain : List Decl → Type 0
HeadsArePlain decls = (t : Ty) → unfolded decls t ≡ None → head decls t ≡ plain_head (head decls) t

abbrev pub BracketsAreSound : List DeclPositions → Type 0
BracketsAreSound all =
    (d : DeclPositions) (t : Ty) → Contains all d → Contains (types_of_body d.decl.body) t
    → IsProper t
    → HasSoundBrackets (decls_of all) t

abbrev pub BracketsFollow : Type 0
BracketsFollow =
    (all : List DeclPositions) → AllIsKnown all → HeadsArePlain (decls_of all)
    → Keeps all not_variant
    → Keeps all hash_clash
    → BracketsAreSound all
