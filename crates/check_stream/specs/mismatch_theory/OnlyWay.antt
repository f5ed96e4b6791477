-- A value that matches its type except at some holes, where only one trail leads to each hole.
use Rattle.std.specs.Prelude.{ℕ, ◌≡◌, ◌⊎◌, List, [], ◌∷◌, ◌++◌, Some, Contains, IsSomeAnd}
use Rattle.base_data.specs.declared.model.value.Val.{Val}
use Rattle.base_data.specs.declared.model.value.Val.TheVariants as vals
use Rattle.base_data.specs.declared.model.value.Obj.{Obj}
use Rattle.types_spec.specs.types.Shapes.{Shapes}
use Rattle.types_spec.specs.types.Typing.{field_at, IsHeld}
use Rattle.types_spec.specs.types.Fault.{IsBefore, step}

-- Pairs of objects and types that justify one another except at the holes. A hole is a field of an
-- object. Every required field of a pair that is not a hole is held.
pub record AreHeldBut {T : Type 0} (shapes : Shapes T) (graph : List Obj) (pairs : List (ℕ × T))
    (holes : List (ℕ × ℕ)) (root : Val) (t : T) : Type 0 where
  pub root_held : IsHeld shapes graph pairs root t
  pub held : (o : ℕ) (s : T) (i : ℕ) (u : T) → Contains pairs (o, s)
      → Contains (shapes.needs graph (vals.Ref o) s) (i, u)
      → Contains holes (o, i)
      ⊎ IsSomeAnd (field_at graph o i) (λ v. IsHeld shapes graph pairs v u)

-- A pair of object `o` requires its field `i`, and the field has the value `v`.
pub record IsNeededOf {T : Type 0} (shapes : Shapes T) (graph : List Obj) (pairs : List (ℕ × T))
    (o i : ℕ) (v : Val) : Type 0 where
  pub type : T
  pub among : Contains pairs (o, type)
  pub asked : T
  pub needed : Contains (shapes.needs graph (vals.Ref o) type) (i, asked)
  pub field : field_at graph o i ≡ Some v

-- The path of a trail. A trail is a list of nested blocks, innermost first, each with the index of
-- the field that holds the next block. The path is the list of the field indices, from the root.
abbrev pub path_of : List (ℕ × ℕ) → List ℕ
path_of [] = []
path_of (link ∷ trail) = path_of trail ++ link.1 ∷ []

-- The trail leads from the root at type `t` to object `o` at type `u`.
abbrev pub IsWay :
    {T : Type 0} → Shapes T → List Obj → Val → T → List (ℕ × ℕ) → ℕ → T → Type 0
IsWay shapes graph root t [] o u = (root ≡ vals.Ref o) × (t ≡ u)
IsWay {T} shapes graph root t (link ∷ trail) o u =
    (s : T) × IsWay shapes graph root t trail link.0 s
    × (step shapes graph (vals.Ref link.0) s link.1 ≡ Some (vals.Ref o, u))

-- Only this trail leads to the object. No required field outside the trail holds the object or a
-- block of the trail.
abbrev pub IsOnlyWay :
    {T : Type 0} → Shapes T → List Obj → List (ℕ × T) → Val → List (ℕ × ℕ) → ℕ → Type 0
IsOnlyWay shapes graph pairs root [] o =
    (p j : ℕ) → ¬ IsNeededOf shapes graph pairs p j (vals.Ref o)
IsOnlyWay shapes graph pairs root (link ∷ trail) o =
    (¬ (root ≡ vals.Ref o))
    × ((p j : ℕ) → IsNeededOf shapes graph pairs p j (vals.Ref o)
    → (p ≡ link.0) × (j ≡ link.1))
    × IsOnlyWay shapes graph pairs root trail link.0

-- Only one trail leads to the hole, and the path to the hole does not come before `path`.
pub record HasOnlyWay {T : Type 0} (shapes : Shapes T) (graph : List Obj) (pairs : List (ℕ × T))
    (root : Val) (o i : ℕ) (path : List ℕ) : Type 0 where
  pub trail : List (ℕ × ℕ)
  pub only : IsOnlyWay shapes graph pairs root trail o
  pub not_before : ¬ IsBefore (path_of ((o, i) ∷ trail)) path
