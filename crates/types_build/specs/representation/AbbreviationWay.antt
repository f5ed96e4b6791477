-- Sequences of expansions at the head of a type, and the correctness of the known abbreviations.
use Rattle.std.specs.Prelude.{ℕ, zero, suc, ◌<◌, ◌≤◌, ◌≡◌, List, [], Option, Some, None, IsSome}
use Rattle.std.specs.Prelude.{nat_eq, position, slice_get, length}
use Rattle.std.specs.Prelude.{option_and_then, All}
use Rattle.std.specs.Str.{bytes_eq}
use Rattle.indexmap.specs.IndexMap.{IndexMap, IsUnique, get, keys}
use Rattle.types_spec.specs.declared.types.decl.Decl.{Decl}
use Rattle.types_spec.specs.types.Ty.{Ty, variable, name_of, parts, instance}
use Rattle.types_spec.specs.types.TypeNodes.{type_at}
use Rattle.types_spec.specs.types.Declarations.{declaration_of, abbreviated, unfolded}

-- ---- sequences of expansions

-- The group exists, and the declaration belongs to the group.
abbrev pub IsOf : Option ℕ → Decl → Type 0
IsOf None decl = ⊥
IsOf (Some group) decl = decl.group ≡ group

abbrev pub IsOfAt : Option ℕ → Option Decl → Type 0
IsOfAt group None = ⊥
IsOfAt group (Some decl) = IsSome (abbreviated decl.body) × IsOf group decl

-- An abbreviation of the group `group` is at the head of the type `t`.
abbrev pub IsAt : List Decl → Option ℕ → Ty → Type 0
IsAt decls group t = IsOfAt group (option_and_then (declaration_of decls) (name_of t))

-- The type `v` results from `t` by the given number of expansions at the head. No expanded
-- abbreviation belongs to the group.
abbrev pub Way : List Decl → Option ℕ → ℕ → Ty → Ty → Type 0
Way decls group zero t v = t ≡ v
Way decls group (suc n) t v =
    (u : Ty) × (¬ IsAt decls group t) × (unfolded decls t ≡ Some u) × Way decls group n u v

abbrev pub Leads : List Decl → Option ℕ → Ty → Ty → Type 0
Leads decls group t v = (n : ℕ) × Way decls group n t v

-- The type `v` results from `t` by at least one expansion at the head. No expanded abbreviation
-- belongs to the group.
abbrev pub Passes : List Decl → Option ℕ → Ty → Ty → Type 0
Passes decls group t v = (n : ℕ) × Way decls group (suc n) t v

-- Expansions outside the group lead from each instance of `t` to the same instance of `v`.
abbrev pub EachLeads : List Decl → Option ℕ → Ty → Ty → Type 0
EachLeads decls group t v =
    (value : List ℕ → Ty) → Leads decls group (instance value t) (instance value v)

abbrev pub EachPasses : List Decl → Option ℕ → Ty → Ty → Type 0
EachPasses decls group t v =
    (value : List ℕ → Ty) → Passes decls group (instance value t) (instance value v)

-- The type with the index `number` results from `t` by one or more expansions at the head. Each
-- expansion after the first is of an abbreviation outside the group.
pub record IsNearer (decls : List Decl) (group : Option ℕ) (types : List Ty) (t : Ty) (number : ℕ)
    : Type 0 where
  pub first : Ty
  pub is : unfolded decls t ≡ Some first
  pub leads : Leads decls group first (type_at types number)
  pub within : number < length types

-- ---- abbreviations

-- The abbreviation at the head of `t` is the declaration with the index `number`.
pub record IsAbbreviation (decls : List Decl) (t : Ty) (number : ℕ) : Type 0 where
  pub name : List ℕ
  pub decl : Decl
  pub named : name_of t ≡ Some name
  pub found : declaration_of decls name ≡ Some decl
  pub there : slice_get decls number ≡ Some decl
  pub abbreviates : IsSome (abbreviated decl.body)

-- The declaration with the index `number` has no parameters.
abbrev pub IsBare : List Decl → ℕ → Type 0
IsBare decls number = (decl : Decl) → slice_get decls number ≡ Some decl → decl.parameters ≡ []

-- Each type with the declaration `decl` at its head expands to its argument with the index `i`, by
-- expansions outside the group.
abbrev pub ComesToArgument : List Decl → Option ℕ → Decl → ℕ → Type 0
ComesToArgument decls group decl i =
    (t a : Ty) (name : List ℕ) → name_of t ≡ Some name → declaration_of decls name ≡ Some decl
    → slice_get (parts t) i ≡ Some a → Passes decls group t a

-- Each entry of the map `known` is correct: if an entry has an argument, the abbreviation expands
-- to the argument.
pub record AreKnown (decls : List Decl) (group : Option ℕ) {S : Type 0}
    (known : IndexMap ℕ (Option ℕ) S) : Type 0 where
  pub unique : IsUnique nat_eq known
  pub below : All (λ j. j < length decls) (keys known)
  pub arguments :
      (j i : ℕ) (decl : Decl) → get nat_eq known j ≡ Some (Some i) → slice_get decls j ≡ Some decl
      → ComesToArgument decls group decl i

-- The type `t` is parameter `i` of the declaration, and the declaration is outside the group.
pub record IsArgument (decl : Decl) (group : Option ℕ) (t : Ty) (i : ℕ) : Type 0 where
  pub apart : ¬ IsOf group decl
  pub name : List ℕ
  pub is : t ≡ variable name
  pub location : position (λ (p : List ℕ). bytes_eq p name) decl.parameters ≡ Some i

-- The count `after` is not less than `before`. If the result is a number, `after` is greater than
-- `before`.
abbrev pub IsMore : ℕ → ℕ → Option ℕ → Type 0
IsMore before after None = before ≤ after
IsMore before after (Some n) = before < after
