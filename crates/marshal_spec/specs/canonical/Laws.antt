-- Laws of canonical bytes and of isomorphic values.
use Rattle.std.specs.Prelude.{ℕ, ◌≡◌, ◌^◌, ◌<◌, ◌≤◌, List, length, map}
use Rattle.base_data.specs.declared.model.value.Val.{Val}
use Rattle.base_data.specs.declared.model.value.Obj.{Obj}
use Rattle.base_data.specs.declared.model.value.Obj.TheVariants as objects
use Rattle.base_data.specs.model.Graph.{IsValue, IsGraph}
use Rattle.marshal_spec.specs.format.Token.{Token, integer, atom, shared, block, leaf, IsToken}
use Rattle.marshal_spec.specs.format.Token.{measure_of}
use Rattle.marshal_spec.specs.format.Token.{Encodes}
use Rattle.marshal_spec.specs.format.Words.{all_words64}
use Rattle.marshal_spec.specs.format.Encoded.{EncodedUnder}
use Rattle.marshal_spec.specs.format.Canonical.{encoding, data_encoding, canon}
use Rattle.marshal_spec.specs.format.Tree.{Tree, tokens, IsTree, ReferBack}
use Rattle.marshal_spec.specs.format.Isomorphism.{Isomorphism, IsTreeOf}

-- ---- encodings

-- The length of the object's contents can be encoded.
abbrev pub LeafHasEncoding : Obj → Type 0
LeafHasEncoding (objects.Block tag values) = Unit {0}
LeafHasEncoding (objects.Bytes bytes) = length bytes < 2 ^ 64
LeafHasEncoding (objects.Double bits) = Unit {0}
LeafHasEncoding (objects.Doubles all) = length all < 2 ^ 64
LeafHasEncoding (objects.I32 z) = Unit {0}
LeafHasEncoding (objects.I64 z) = Unit {0}
LeafHasEncoding (objects.Native z) = Unit {0}

-- The numbers of the token (an offset, a size or a length) can be encoded.
abbrev pub HasEncoding : Token → Type 0
HasEncoding (integer z) = Unit {0}
HasEncoding (atom tag) = Unit {0}
HasEncoding (shared offset) = offset < 2 ^ 64
HasEncoding (block tag size) = size < 2 ^ 54
HasEncoding (leaf object) = LeafHasEncoding object

-- The canonical encoding of a token is an encoding of that token.
abbrev pub EncodingEncodes : Type 0
EncodingEncodes = (t : Token) → IsToken t → HasEncoding t → Encodes t (encoding t)

-- If a tree's 64-bit words are within the limit and the tree's data have fewer than 2^48 bytes,
-- then the canonical bytes encode the tree.
abbrev pub CanonEncodes : Type 0
CanonEncodes =
    (limit : ℕ) (tree : Tree) → limit < 2 ^ 64 → IsTree tree → ReferBack tree 0
    → all_words64 (map measure_of (tokens tree)) ≤ limit
    → length (data_encoding (tokens tree)) < 2 ^ 48
    → EncodedUnder limit (canon tree) tree

-- ---- isomorphic values

-- Each value of a graph is isomorphic to itself.
abbrev pub SameIsReflexive : Type 0
SameIsReflexive = (g : List Obj) (v : Val) → IsGraph g → IsValue (length g) v → Isomorphism g v g v

abbrev pub SameIsSymmetric : Type 0
SameIsSymmetric = (g h : List Obj) (v w : Val) → Isomorphism g v h w → Isomorphism h w g v

abbrev pub SameIsTransitive : Type 0
SameIsTransitive = (g h i : List Obj) (u v w : Val) → Isomorphism g u h v → Isomorphism h v i w
    → Isomorphism g u i w

-- A tree of the value `v`, and the proof that `v` has no other tree.
pub record HasOneTree (g : List Obj) (v : Val) : Type 0 where
  pub tree : Tree
  pub is : IsTreeOf g v tree
  pub only : (other : Tree) → IsTreeOf g v other → other ≡ tree

abbrev pub OneTreeFollows : Type 0
OneTreeFollows = (g : List Obj) (v : Val) → IsGraph g → IsValue (length g) v → HasOneTree g v
