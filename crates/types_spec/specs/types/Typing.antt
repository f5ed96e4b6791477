-- The typing relation: a value has a type if some list of pairs of an object and a type justifies
-- the typing. The definition is this project's own, after Henry, Mauny, Chailloux and Manoury 2012.
use Rattle.std.specs.Prelude.{ℕ, List, [], Option, slice_get, option_and_then, IsSomeAnd, Contains}
use Rattle.base_data.specs.declared.model.value.Val.{Val}
use Rattle.base_data.specs.declared.model.value.Val.TheVariants as vals
use Rattle.base_data.specs.declared.model.value.Obj.{Obj}
use Rattle.base_data.specs.declared.model.value.Obj.TheVariants as objects
use Rattle.types_spec.specs.types.Shapes.{Shapes}

-- The values in the fields of a block. Objects of other kinds have no values.
abbrev pub values_of : Obj → List Val
values_of (objects.Block tag values) = values
values_of (objects.Bytes bytes) = []
values_of (objects.Double bits) = []
values_of (objects.Doubles all) = []
values_of (objects.I32 z) = []
values_of (objects.I64 z) = []
values_of (objects.Native z) = []

-- Field `i` of object `o`.
abbrev pub field_at : List Obj → ℕ → ℕ → Option Val
field_at graph o i = option_and_then (λ object. slice_get (values_of object) i) (slice_get graph o)

-- If the value is a reference, then `pairs` contains the value's object with a type equal to `t`.
abbrev pub IsListed : {T : Type 0} → Shapes T → List (ℕ × T) → Val → T → Type 0
IsListed shapes pairs (vals.Int z) t = Unit {0}
IsListed shapes pairs (vals.Atom tag) t = Unit {0}
IsListed {T} shapes pairs (vals.Ref o) t = (u : T) × Contains pairs (o, u) × shapes.equal u t

-- The value matches the type and is listed in `pairs` (`IsListed`).
pub record IsHeld {T : Type 0} (shapes : Shapes T) (graph : List Obj) (pairs : List (ℕ × T))
    (v : Val) (t : T) : Type 0 where
  pub fits : shapes.fits graph v t
  pub listed : IsListed shapes pairs v t

-- A typing: pairs of an object and a type that justify one another. Each object matches its type,
-- each required field is held (`IsHeld`), and each mutable object has one type.
pub record IsTyping {T : Type 0} (shapes : Shapes T) (graph : List Obj) (pairs : List (ℕ × T))
    : Type 0 where
  pub fits : (o : ℕ) (t : T) → Contains pairs (o, t) → shapes.fits graph (vals.Ref o) t
  pub held : (o : ℕ) (t : T) (i : ℕ) (u : T) → Contains pairs (o, t)
      → Contains (shapes.needs graph (vals.Ref o) t) (i, u)
      → IsSomeAnd (field_at graph o i) (λ v. IsHeld shapes graph pairs v u)
  pub one_type : (o : ℕ) (t u : T) → Contains pairs (o, t) → Contains pairs (o, u)
      → shapes.mutable graph o t → shapes.equal t u

-- If the value is a reference, then some typing contains the value's object at the type.
abbrev pub IsTyped : {T : Type 0} → Shapes T → List Obj → Val → T → Type 0
IsTyped shapes graph (vals.Int z) t = Unit {0}
IsTyped shapes graph (vals.Atom tag) t = Unit {0}
IsTyped {T} shapes graph (vals.Ref o) t =
    (pairs : List (ℕ × T)) × IsTyping shapes graph pairs × Contains pairs (o, t)

-- The value has the type: the value matches the type, and some typing contains the object of a
-- reference (`IsTyped`).
pub record HasType {T : Type 0} (shapes : Shapes T) (graph : List Obj) (v : Val) (t : T)
    : Type 0 where
  pub fits : shapes.fits graph v t
  pub typed : IsTyped shapes graph v t
