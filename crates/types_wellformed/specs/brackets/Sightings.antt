-- The entry of a key in a table of the values seen under each key.
use Rattle.std.specs.Prelude.{◌≡◌, ◌≢◌, Bool, Option, None, Some, MatchOption}
use Rattle.std.specs.Prelude.{if◌then◌else◌}
use Rattle.types_wellformed.specs.declared.brackets.sightings.Sighting.{Sighting}

module _ {V : Type 0} (eq : V → V → Bool) where
  -- The value that differs from the first value, after one more value is seen.
  abbrev pub differing : V → Option V → V → Option V
  differing first None value = if eq first value then None else Some value
  differing first (Some other) value = Some other

  -- The entry of a key after one more value is seen under the key.
  abbrev pub with_value : Option (Sighting V) → V → Sighting V
  with_value None value = record { first = value; other = None }
  with_value (Some known) value =
      record { first = known.first; other = differing known.first known.other value }

  -- A value seen under the key that differs from `value`, or `None` if no seen value differs.
  abbrev pub other_value : Option (Sighting V) → V → Option V
  other_value None value = None
  other_value (Some known) value =
      if eq known.first value then known.other else Some known.first

-- The entry describes the meanings of the seen values. Either no value was seen, or all values
-- equal the first value, or a second value differs from the first value.
abbrev pub Reports : {V B : Type 0} → (V → B) → (B → Type 0) → Option (Sighting V) → Type 0
Reports {V} {B} meaning Seen None = (b : B) → ¬ Seen b
Reports {V} {B} meaning Seen (Some known) =
    Seen (meaning known.first)
    × MatchOption known.other ((b : B) → Seen b → meaning known.first ≡ b)
    (λ other. Seen (meaning other) × (meaning known.first ≢ meaning other))
