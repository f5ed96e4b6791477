-- Bytes are exactly one stream of values.
use Rattle.std.specs.Prelude.{ℕ, ◌≡◌, List}
use Rattle.base_data.specs.model.Bytes.{AreBytes}
use Rattle.marshal_spec.specs.format.Tree.{Tree}
use Rattle.marshal_spec.specs.format.Stream.{StreamEnd, Stream}

-- The bytes are the values `trees` followed by the end `end`, and no further stream.
pub record IsStream (limit : ℕ) (bytes : List ℕ) (trees : List Tree)
    (end : StreamEnd) : Type 0 where
  pub holds : Stream bytes limit trees end
  pub only : (others : List Tree) (other : StreamEnd) → Stream bytes limit others other
      → (others ≡ trees) × (other ≡ end)

-- For each limit, each list of bytes is exactly one stream.
abbrev pub HasOneStream : Type 0
HasOneStream =
    (limit : ℕ) (bytes : List ℕ) → AreBytes bytes
    → (trees : List Tree) × (end : StreamEnd) × IsStream limit bytes trees end
