-- Laws about the positions of values in an input.
use Rattle.std.specs.Prelude.{ℕ, ◌+◌, ◌<◌, ◌≤◌, ◌≡◌, ◌⊎◌, List, [], ◌∷◌, length, take, drop}
use Rattle.base_data.specs.model.Bytes.{AreBytes}
use Rattle.marshal_spec.specs.format.Encoded.{EncodedUnder}
use Rattle.marshal_spec.specs.format.Tree.{Tree}
use Rattle.cmd_scan.specs.found_positions.ValuePositions.{ValuePosition, position_of, ArePositions}

-- Under each limit each input has exactly one list of positions.
abbrev pub HasOneList : Type 0
HasOneList =
    (limit : ℕ) (input : List ℕ) → AreBytes input
    → (positions : List ValuePosition) × ArePositions limit input positions
    × ((others : List ValuePosition) → ArePositions limit input others → others ≡ positions)

-- A value is encoded at offset `offset`, in `size` bytes.
abbrev pub IsEncodedAt : ℕ → List ℕ → ℕ → ℕ → Tree → Type 0
IsEncodedAt limit input offset size tree =
    (offset + size ≤ length input) × EncodedUnder limit (take size (drop offset input)) tree

-- The position is the position of an encoded value.
abbrev pub IsPosition : ℕ → List ℕ → ValuePosition → Type 0
IsPosition limit input position =
    (tree : Tree) × IsEncodedAt limit input position.offset position.size tree
    × (position
    ≡ position_of position.offset (take position.size (drop position.offset input)) tree)

-- From offset `from` on, the positions are positions of values, and no position begins before the
-- end of the previous one.
abbrev pub AreInOrder : ℕ → List ℕ → ℕ → List ValuePosition → Type 0
AreInOrder limit input from [] = Unit {0}
AreInOrder limit input from (position ∷ positions) =
    (from ≤ position.offset) × IsPosition limit input position
    × AreInOrder limit input (position.offset + position.size) positions

-- The offset is inside one of the positions.
abbrev pub IsInside : ℕ → List ValuePosition → Type 0
IsInside offset [] = ⊥
IsInside offset (position ∷ positions) =
    ((position.offset ≤ offset) × (offset < position.offset + position.size))
    ⊎ IsInside offset positions

-- Each position is the position of a value, positions do not overlap, and each encoded value begins
-- inside one of the positions.
abbrev pub ArePositionsOfAll : Type 0
ArePositionsOfAll =
    (limit : ℕ) (input : List ℕ) (positions : List ValuePosition)
    → ArePositions limit input positions
    → AreInOrder limit input 0 positions
    × ((offset size : ℕ) (tree : Tree) → IsEncodedAt limit input offset size tree
    → IsInside offset positions)
