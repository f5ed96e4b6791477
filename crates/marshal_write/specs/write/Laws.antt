-- Reading and writing are inverse to each other.
use Rattle.std.specs.Prelude.{ℕ, ◌≡◌, ◌^◌, ◌<◌, ◌≤◌, List, length, map}
use Rattle.base_data.specs.declared.model.value.Val.{Val}
use Rattle.base_data.specs.declared.model.value.Obj.{Obj}
use Rattle.marshal_spec.specs.format.Words.{all_words64}
use Rattle.marshal_spec.specs.format.Token.{measure_of}
use Rattle.marshal_spec.specs.format.Canonical.{data_encoding, canon}
use Rattle.marshal_spec.specs.format.Isomorphism.{Isomorphism, IsTreeOf}
use Rattle.marshal_spec.specs.format.Encoded.{EncodedUnder}
use Rattle.marshal_spec.specs.format.Tree.{Tree, tokens, root, objects_of}

-- If a tree has at most `limit` words and short enough data, then the canonical bytes of a value
-- encode the value's tree. The tree has the same value.
abbrev pub WrittenIsRead : Type 0
WrittenIsRead =
    (limit : ℕ) (g : List Obj) (v : Val) (tree : Tree) → limit < 2 ^ 64 → IsTreeOf g v tree
    → all_words64 (map measure_of (tokens tree)) ≤ limit
    → length (data_encoding (tokens tree)) < 2 ^ 48
    → EncodedUnder limit (canon tree) tree × Isomorphism g v (objects_of tree 0) (root tree 0)

-- If bytes are the canonical bytes of the tree that they encode, then reading the bytes and writing
-- the value gives the same bytes.
abbrev pub ReadIsWritten : Type 0
ReadIsWritten =
    (limit : ℕ) (bytes : List ℕ) (tree other : Tree) → EncodedUnder limit bytes tree
    → canon tree ≡ bytes
    → IsTreeOf (objects_of tree 0) (root tree 0) other → canon other ≡ bytes
