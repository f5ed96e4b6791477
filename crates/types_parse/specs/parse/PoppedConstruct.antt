-- The innermost frame, removed or inspected.
use Rattle.std.specs.Prelude.{◌≡◌, List, [], ◌∷◌, Option, Some, None}
use Rattle.types_parse.specs.declared.parse.open.OpenConstruct.{OpenConstruct}

abbrev pub Popped : List OpenConstruct → List OpenConstruct → Option OpenConstruct → Type 0
Popped old new None = (old ≡ []) × (new ≡ [])
Popped old new (Some frame) = old ≡ frame ∷ new

abbrev pub first : List OpenConstruct → Option OpenConstruct
first [] = None
first (frame ∷ fs) = Some frame
