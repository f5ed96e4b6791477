-- Tables of the tags seen so far, by name and by hash.
use Rattle.std.specs.Prelude.{ℕ, ℤ, ◌≡◌, ◌≢◌, List, Option, Contains}
use Rattle.std.specs.BTreeMap.{get_by}
use Rattle.std.specs.Borrow.{Bor}
use Rattle.std.specs.Cmp.Lexicographic.{slice_cmp}
use Rattle.std.specs.Ordering.{nat_cmp, int_cmp}
use Rattle.types_spec.specs.tag_hash.TagHash.{tag_hash}
use Rattle.types_spec.specs.declared.types.head.TagOf.{TagOf}
use Rattle.types_wellformed.specs.declared.brackets.sightings.Sighting.{Sighting}
use Rattle.types_wellformed.specs.declared.brackets.sightings.Sightings.{Sightings}
use Rattle.types_wellformed.specs.brackets.TagItems.{HaveOneHash}
use Rattle.types_wellformed.specs.brackets.Sightings.{Reports}

-- ---- arguments, by the names of tags

abbrev pub ArgumentTable : Type 0
ArgumentTable = Sightings (Bor (List ℕ)) (Option ℕ)

abbrev pub arguments_at : ArgumentTable → List ℕ → Option (Sighting (Option ℕ))
arguments_at table name = get_by (λ k. slice_cmp nat_cmp name k.now) table.entries

-- One of `tags` has the name `name` and the argument `argument`.
abbrev pub HasArgument : List (TagOf ℕ) → List ℕ → Option ℕ → Type 0
HasArgument tags name argument = Contains tags (record { name = name; argument = argument })

-- The table describes the arguments of `tags`, by name.
abbrev pub AreArguments : List (TagOf ℕ) → ArgumentTable → Type 0
AreArguments tags table =
    (name : List ℕ)
    → Reports (λ argument. argument) (HasArgument tags name) (arguments_at table name)

-- One of `tags` has the name of `tag` and another argument.
abbrev pub ConflictsWith : List (TagOf ℕ) → TagOf ℕ → Type 0
ConflictsWith tags tag =
    (argument : Option ℕ) × HasArgument tags tag.name argument × (argument ≢ tag.argument)

-- One of the tags `second` has the name of a tag in `first` and another argument.
abbrev pub SomeConflicts : List (TagOf ℕ) → List (TagOf ℕ) → Type 0
SomeConflicts first second = (tag : TagOf ℕ) × Contains second tag × ConflictsWith first tag

-- ---- names, by the hashes of tags

abbrev pub EncodingTable : Type 0
EncodingTable = Sightings ℤ (Bor (List ℕ))

abbrev pub tag_names_at : EncodingTable → ℤ → Option (Sighting (Bor (List ℕ)))
tag_names_at table hash = get_by (int_cmp hash) table.entries

-- One of `tags` has the hash `hash` and the name `name`.
abbrev pub HasEncoding : List (TagOf ℕ) → ℤ → List ℕ → Type 0
HasEncoding tags hash name =
    (tag : TagOf ℕ) × Contains tags tag × (tag.name ≡ name) × (tag_hash name ≡ hash)

-- The table describes the names of `tags`, by hash.
abbrev pub AreTagNames : List (TagOf ℕ) → EncodingTable → Type 0
AreTagNames tags table =
    (hash : ℤ)
    → Reports (λ (text : Bor (List ℕ)). text.now) (HasEncoding tags hash) (tag_names_at table hash)

-- A tag of `first` with the name `one_name` and a tag of `second` with the name `other_name` have
-- the same hash.
abbrev pub AreColliding : List (TagOf ℕ) → List (TagOf ℕ) → List ℕ → List ℕ → Type 0
AreColliding first second one_name other_name =
    (one other : TagOf ℕ) × Contains first one × Contains second other
    × HaveOneHash one other one_name other_name
