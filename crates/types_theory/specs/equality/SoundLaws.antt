-- Laws of the types that a sound type reaches over well-formed declarations, and of the heads of
-- their instances.
use Rattle.std.specs.Prelude.{ℕ, ◌≡◌, ◌≢◌, List, Contains, option_map}
use Rattle.types_spec.specs.declared.types.decl.Decl.{Decl}
use Rattle.types_spec.specs.declared.types.head.HeadOf.TheVariants as heads
use Rattle.types_spec.specs.types.Ty.{Ty, instance}
use Rattle.types_spec.specs.types.Declarations.{unfolded}
use Rattle.types_spec.specs.types.Head.{head}
use Rattle.types_spec.specs.types.WellFormed.{IsWhole, TakeArguments, IsSoundType, AreWellFormed}
use Rattle.types_spec.specs.types.WellFormed.{AreKnownByHash}
use Rattle.types_spec.specs.types.Reached.{IsReached}
use Rattle.types_spec.specs.types.Table.{head_with_parts}

-- Every type that a sound type reaches is sound.
abbrev pub ReachedAreSound : Type 0
ReachedAreSound =
    (decls : List Decl) (t : Ty) (types : List Ty) → AreWellFormed decls → IsSoundType decls t
    → IsReached decls t types → (u : Ty) → Contains types u → IsSoundType decls u

-- The tags of every type that a sound type reaches are determined by their hashes.
abbrev pub ReachedAreKnownByHash : Type 0
ReachedAreKnownByHash =
    (decls : List Decl) (t : Ty) (types : List Ty) → AreWellFormed decls → IsSoundType decls t
    → IsReached decls t types → AreKnownByHash decls types

-- The expansion of an abbreviation at the head commutes with instantiation.
abbrev pub ReplacementsCommute : Type 0
ReplacementsCommute =
    (decls : List Decl) (value : List ℕ → Ty) (t : Ty) → AreWellFormed decls → IsWhole t
    → TakeArguments decls 0 t
    → unfolded decls (instance value t) ≡ option_map (instance value) (unfolded decls t)

-- If the head of a type is not a variable, then the head of an instance of the type is the instance
-- of the type's head.
abbrev pub HeadsCommute : Type 0
HeadsCommute =
    (decls : List Decl) (value : List ℕ → Ty) (t : Ty) → AreWellFormed decls → IsSoundType decls t
    → ((x : List ℕ) → head decls t ≢ heads.Variable x)
    → head decls (instance value t) ≡ head_with_parts (instance value) (head decls t)

-- If the head of a type is a variable, then an instance of the type has the head of the type that
-- replaces the variable.
abbrev pub VariablesComeThrough : Type 0
VariablesComeThrough =
    (decls : List Decl) (value : List ℕ → Ty) (t : Ty) (x : List ℕ) → AreWellFormed decls
    → IsSoundType decls t → head decls t ≡ heads.Variable x
    → head decls (instance value t) ≡ head decls (value x)
