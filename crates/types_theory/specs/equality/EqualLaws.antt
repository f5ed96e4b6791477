-- Laws of heads and of equality of declared types.
use Rattle.std.specs.Prelude.{◌≡◌, List, Some, None, Contains}
use Rattle.types_spec.specs.declared.types.decl.Decl.{Decl}
use Rattle.types_spec.specs.declared.types.head.HeadOf.{HeadOf}
use Rattle.types_spec.specs.types.Ty.{Ty}
use Rattle.types_spec.specs.types.Declarations.{unfolded}
use Rattle.types_spec.specs.types.Head.{head, plain_head}
use Rattle.types_spec.specs.types.WellFormed.{AreSound, AreKnownByHash}
use Rattle.types_spec.specs.types.Equal.{declared_shapes}
use Rattle.types_spec.specs.types.Reached.{IsReached}
use Rattle.types_spec.specs.types.LawfulShapes.{AreLawful}

-- The expansion of an abbreviation at the head of a type does not change the type's head.
abbrev pub ReplacementsLeaveTheHead : Type 0
ReplacementsLeaveTheHead =
    (decls : List Decl) (t u : Ty) → AreSound decls → unfolded decls t ≡ Some u
    → head decls t ≡ head decls u

-- If no abbreviation is at the head of a type, the head of the type is the written head.
abbrev pub HeadsAreAsWritten : Type 0
HeadsAreAsWritten =
    (decls : List Decl) (t : Ty) → AreSound decls → unfolded decls t ≡ None
    → head decls t ≡ plain_head (head decls) t

-- If a function satisfies `ReplacementsLeaveTheHead` and `HeadsAreAsWritten`, then the function is
-- `head`.
abbrev pub OnlyTheHead : Type 0
OnlyTheHead =
    (decls : List Decl) (other : Ty → HeadOf Ty) → AreSound decls
    → ((t u : Ty) → unfolded decls t ≡ Some u → other t ≡ other u)
    → ((t : Ty) → unfolded decls t ≡ None → other t ≡ plain_head other t)
    → (t : Ty) → other t ≡ head decls t

-- Over accepted declarations, the shapes are lawful at the types that a type reaches. If two tags
-- had the same hash, equal variant types could require unequal fields.
abbrev pub ReachedAreLawful : Type 0
ReachedAreLawful =
    (decls : List Decl) (t : Ty) (types : List Ty) → AreSound decls → IsReached decls t types
    → AreKnownByHash decls types → AreLawful (declared_shapes decls) (λ u. Contains types u)
