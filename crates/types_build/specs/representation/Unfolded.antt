-- The results of expansions at the head of a type, by type index.
use Rattle.std.specs.Prelude.{ℕ, ◌≡◌, ◌<◌, List, length, Some, None}
use Rattle.types_spec.specs.declared.types.decl.Decl.{Decl}
use Rattle.types_spec.specs.types.Ty.{Ty}
use Rattle.types_spec.specs.types.TypeNodes.{type_at}
use Rattle.types_spec.specs.types.Declarations.{unfolded}
use Rattle.types_spec.specs.types.Head.{head}
use Rattle.types_table.specs.store.Held.{Holds}

-- The type `t` was expanded once at its head, and the expansion has the index `number`.
pub record IsReplaced (decls : List Decl) (old new : List Ty) (t : Ty) (number : ℕ) : Type 0 where
  pub next : Ty
  pub is : unfolded decls t ≡ Some next
  pub holds : Holds old new next number

-- No abbreviation is at the head of the type `t`, and no type was appended to the store.
pub record IsLeft (decls : List Decl) (old new : List Ty) (t : Ty) : Type 0 where
  pub none : unfolded decls t ≡ None
  pub same : new ≡ old

-- The type with the index `number` has the head of `t`, and no abbreviation is at its head.
pub record HasHeadOf (decls : List Decl) (types : List Ty) (t : Ty) (number : ℕ) : Type 0 where
  pub within : number < length types
  pub head : head decls (type_at types number) ≡ head decls t
  pub ended : unfolded decls (type_at types number) ≡ None
