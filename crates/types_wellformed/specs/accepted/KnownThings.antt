-- The names, variables and polymorphic variants in a type, and the condition that a list of
-- occurrences contains all of a type's names, variables and polymorphic variants.
use Rattle.std.specs.Prelude.{◌≡◌, ℕ, List, [], ◌∷◌, ◌++◌, map, Contains}
use Rattle.types_spec.specs.types.WellFormed.{types_of_body}
use Rattle.types_spec.specs.types.Occurrence.{Occurrence, PlacedItem, use_of, variable_at}
use Rattle.types_spec.specs.types.Occurrence.{bracket_of}
use Rattle.types_spec.specs.types.Occurrence.{DeclPositions}
use Rattle.types_spec.specs.types.Ty.{Ty, variable, named, tuple, bracket, part, tag, tag_of}
use Rattle.types_spec.specs.types.Ty.{including}
use Rattle.types_spec.specs.types.Ty.{parts}

-- A part of a type: a name with its arguments, a variable, or a polymorphic variant type given by
-- its items. Each item is written as the polymorphic variant type that contains only the item.
pub data Thing : Type 0 where
  use_thing : (name : List ℕ) (arguments : List Ty) → Thing
  variable_thing : (name : List ℕ) → Thing
  bracket_thing : (items : List Ty) → Thing

-- ---- types that the grammar can produce

-- The type is a name or a tuple, extended by any number of arguments or components.
abbrev pub HasParts : Ty → Type 0
HasParts (variable x) = ⊥
HasParts (named x) = Unit {0}
HasParts tuple = Unit {0}
HasParts bracket = ⊥
HasParts (part whole added) = HasParts whole
HasParts (tag whole x) = ⊥
HasParts (tag_of whole x argument) = ⊥
HasParts (including whole included) = ⊥

-- The type is a bracket, extended by any number of items.
abbrev pub HasItems : Ty → Type 0
HasItems (variable x) = ⊥
HasItems (named x) = ⊥
HasItems tuple = ⊥
HasItems bracket = Unit {0}
HasItems (part whole added) = ⊥
HasItems (tag whole x) = HasItems whole
HasItems (tag_of whole x argument) = HasItems whole
HasItems (including whole included) = HasItems whole

abbrev pub IsProper : Ty → Type 0
IsProper (variable x) = Unit {0}
IsProper (named x) = Unit {0}
IsProper tuple = Unit {0}
IsProper bracket = Unit {0}
IsProper (part whole added) = HasParts whole × IsProper whole × IsProper added
IsProper (tag whole x) = HasItems whole × IsProper whole
IsProper (tag_of whole x argument) = HasItems whole × IsProper whole × IsProper argument
IsProper (including whole included) = HasItems whole × IsProper whole × IsProper included

-- ---- the parts of a type

-- The items of a polymorphic variant type, from the left.
abbrev pub items_of : Ty → List Ty
items_of (tag whole x) = items_of whole ++ tag bracket x ∷ []
items_of (tag_of whole x argument) = items_of whole ++ tag_of bracket x argument ∷ []
items_of (including whole included) = items_of whole ++ including bracket included ∷ []
items_of t = []

-- The variable, name or polymorphic variant type with which the type begins, together with the
-- arguments or items of the whole type.
abbrev pub begins_as : List Ty → List Ty → Ty → List Thing
begins_as arguments items (variable x) = variable_thing x ∷ []
begins_as arguments items (named x) = use_thing x arguments ∷ []
begins_as arguments items tuple = []
begins_as arguments items bracket = bracket_thing items ∷ []
begins_as arguments items (part whole added) = begins_as arguments items whole
begins_as arguments items (tag whole x) = begins_as arguments items whole
begins_as arguments items (tag_of whole x argument) = begins_as arguments items whole
begins_as arguments items (including whole included) = begins_as arguments items whole

abbrev pub own_thing : Ty → List Thing
own_thing t = begins_as (parts t) (items_of t) t

-- The names, variables and polymorphic variants in the parts of the type.
abbrev pub things_inside : Ty → List Thing
things_inside (part whole added) = things_inside whole ++ (own_thing added ++ things_inside added)
things_inside (tag whole x) = things_inside whole
things_inside (tag_of whole x argument) =
    things_inside whole ++ (own_thing argument ++ things_inside argument)
things_inside (including whole included) =
    things_inside whole ++ (own_thing included ++ things_inside included)
things_inside t = []

abbrev pub things_in : Ty → List Thing
things_in t = own_thing t ++ things_inside t

-- ---- complete occurrences

-- The part of a type that an occurrence states, without lexemes.
abbrev pub thing_of : Occurrence → Thing
thing_of (use_of position name arguments in_tag) = use_thing name arguments
thing_of (variable_at position name) = variable_thing name
thing_of (bracket_of items) = bracket_thing (map (λ (item : PlacedItem). item.1) items)

-- Some occurrence of the list states the thing `thing`.
abbrev pub IsKnown : List Occurrence → Thing → Type 0
IsKnown occurrences thing =
    (occurrence : Occurrence) × Contains occurrences occurrence × (thing_of occurrence ≡ thing)

-- The list of occurrences contains each name, variable and polymorphic variant of the type `t`.
abbrev pub ReportsAll : List Occurrence → Ty → Type 0
ReportsAll occurrences t =
    (thing : Thing) → Contains (things_in t) thing → IsKnown occurrences thing

-- The occurrences of each declaration contain each name, variable and polymorphic variant of the
-- declaration's types.
abbrev pub AllIsKnown : List DeclPositions → Type 0
AllIsKnown all =
    (d : DeclPositions) (t : Ty) → Contains all d → Contains (types_of_body d.decl.body) t
    → ReportsAll d.occurrences t
