-- The theorems that the streaming check is sound.
use Rattle.std.specs.Prelude.{ℕ, List, [], Contains}
use Rattle.base_data.specs.declared.model.header.Head.{Head}
use Rattle.types_spec.specs.types.LawfulShapes.{AreLawful, Everything}
use Rattle.types_spec.specs.types.Table.{Table, table_shapes}
use Rattle.marshal_spec.specs.format.Token.{Token}
use Rattle.check_stream.specs.theory.Noted.{IsFlatNoted}
use Rattle.check_stream.specs.theory.OnePass.{IsPassing, EndsPass, IsTypedPrefix}

-- If the pass reached the end of a value and no position is open, then the bytes begin with a value
-- of the type.
abbrev pub PassesTypePrefixes : Type 0
PassesTypePrefixes =
    (table : Table) (limit : ℕ) (bytes : List ℕ) (head : Head) (start n : ℕ) (tokens : List Token)
    (types : List ℕ) → AreLawful (table_shapes table) Everything
    → IsPassing [] table limit bytes head start n tokens types []
    → EndsPass head start n tokens types
    → IsTypedPrefix table limit n bytes

-- If the pass reached the end of a value with recorded second types of flat blocks, then the bytes
-- begin with a value of the type.
abbrev pub NotedPassesTypePrefixes : Type 0
NotedPassesTypePrefixes =
    (noted : List (ℕ × ℕ)) (table : Table) (limit : ℕ) (bytes : List ℕ) (head : Head) (start n : ℕ)
    (tokens : List Token) (types : List ℕ) → AreLawful (table_shapes table) Everything
    → IsPassing noted table limit bytes head start n tokens types []
    → EndsPass head start n tokens types
    → ((o t : ℕ) → Contains noted (o, t) → IsFlatNoted table types noted tokens o t)
    → IsTypedPrefix table limit n bytes
