-- The positions of values in an input, and their lines.
use Rattle.std.specs.Prelude.{ℕ, ◌+◌, ◌≡◌, List, [], ◌∷◌, ◌++◌, length, map, codes, decimal}
use Rattle.marshal_spec.specs.format.Token.{measure_of}
use Rattle.marshal_spec.specs.format.Tree.{Tree, tokens, objects_of, root}
use Rattle.marshal_spec.specs.format.Words.{all_words64}
use Rattle.types_spec.specs.types.VerdictText.{kind_text}
use Rattle.cmd_scan.specs.found_positions.InputParts.{InputPart, passed, sighted, bytes_of}
use Rattle.cmd_scan.specs.found_positions.InputParts.{BeginNoValue, AreParts}

-- A position: the offset of a value in bytes, its length in bytes, the size of its objects in
-- 64-bit words, the number of its objects, and its kind.
pub record ValuePosition : Type 0 where
  pub offset : ℕ
  pub size : ℕ
  pub words : ℕ
  pub objects : ℕ
  pub kind : List ℕ

abbrev pub position_of : ℕ → List ℕ → Tree → ValuePosition
position_of offset bytes tree = record {
  offset = offset;
  size = length bytes;
  words = all_words64 (map measure_of (tokens tree));
  objects = length (objects_of tree 0);
  kind = kind_text (objects_of tree 0) (root tree 0);
}

-- The positions of the values among the parts, if the parts begin at offset `offset`.
abbrev pub positions_of : ℕ → List InputPart → List ValuePosition
positions_of offset [] = []
positions_of offset (passed byte ∷ parts) = positions_of (offset + 1) parts
positions_of offset (sighted bytes tree ∷ parts) =
    position_of offset bytes tree ∷ positions_of (offset + length bytes) parts

-- ---- the positions of an input

-- The positions of an input, from left to right. If a value is encoded at an offset, the value has
-- a position, and the list continues after the value. A byte at which no value begins is skipped.
abbrev pub ArePositions : ℕ → List ℕ → List ValuePosition → Type 0
ArePositions limit input positions =
    (parts : List InputPart) × (input ≡ bytes_of parts)
    × AreParts limit (BeginNoValue limit) parts [] × (positions ≡ positions_of 0 parts)

-- ---- lines

-- The line of a position: OFFSET LENGTH WORDS OBJECTS KIND.
abbrev pub line_of : ValuePosition → List ℕ
line_of position =
    decimal position.offset ++ codes " " ++ decimal position.size ++ codes " "
    ++ decimal position.words
    ++ codes " " ++ decimal position.objects ++ codes " " ++ position.kind ++ codes "\n"

abbrev pub lines_of : List ValuePosition → List ℕ
lines_of [] = []
lines_of (position ∷ positions) = line_of position ++ lines_of positions
