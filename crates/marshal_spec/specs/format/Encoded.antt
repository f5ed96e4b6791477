-- The bytes that encode a value (`intern.c`): a header, and encodings of the tokens of one tree.
use Rattle.std.specs.Prelude.{ℕ, ◌^◌, ◌<◌, ◌≤◌, ◌≡◌, ◌⊎◌, Bool, true, false, List, ◌++◌, length}
use Rattle.std.specs.Prelude.{map, All}
use Rattle.std.specs.List.{concat, AllZip}
use Rattle.base_data.specs.declared.model.header.Head.{Head}
use Rattle.marshal_spec.specs.format.Header.{magic, small_magic, big_magic, header_length, head_of}
use Rattle.marshal_spec.specs.format.Words.{objects, all_words32, all_words64}
use Rattle.marshal_spec.specs.format.Token.{Token, integer, atom, shared, block, leaf, measure_of}
use Rattle.marshal_spec.specs.format.Token.{Encodes}
use Rattle.marshal_spec.specs.format.Tree.{Tree, tokens, IsTree, ReferBack}

-- The bytes of a big or small header.
pub record IsHeader (bytes : List ℕ) : Type 0 where
  pub magic_is : (magic bytes ≡ small_magic) ⊎ (magic bytes ≡ big_magic)
  pub whole : length bytes ≡ header_length bytes

abbrev pub IsNoReference : Token → Type 0
IsNoReference (integer z) = Unit {0}
IsNoReference (atom tag) = Unit {0}
IsNoReference (shared offset) = ⊥
IsNoReference (block tag size) = Unit {0}
IsNoReference (leaf object) = Unit {0}

-- A small header states the number `found` of words on 32 bits. A big header states no number of
-- words on 32 bits.
abbrev pub StatesWords32 : Bool → ℕ → ℕ → Type 0
StatesWords32 true stated found = Unit {0}
StatesWords32 false stated found = stated ≡ found

-- The header agrees with the tokens. The stated numbers of words are equal to the sums. The stated
-- number of objects is equal to the sum, or 0 if no token is a reference.
pub record States (head : Head) (all : List Token) : Type 0 where
  pub w32 : StatesWords32 head.big head.w32 (all_words32 (map measure_of all))
  pub w64 : head.w64 ≡ all_words64 (map measure_of all)
  pub objects : (head.objects ≡ objects (map measure_of all))
      ⊎ ((head.objects ≡ 0) × All IsNoReference all)

-- The header and the chunks, one chunk for each token, encode the tree.
pub record EncodesTree (tree : Tree) (header : List ℕ) (chunks : List (List ℕ)) : Type 0 where
  pub is_tree : IsTree tree
  pub refers_back : ReferBack tree 0
  pub is_header : IsHeader header
  pub encodes : AllZip Encodes (tokens tree) chunks
  pub length : (head_of header).length ≡ length (concat chunks)
  pub states : States (head_of header) (tokens tree)

-- The bytes encode the tree, and the header states at most `limit` words on 64 bits.
pub record EncodedUnder (limit : ℕ) (bytes : List ℕ) (tree : Tree) : Type 0 where
  pub header : List ℕ
  pub chunks : List (List ℕ)
  pub bytes_are : bytes ≡ header ++ concat chunks
  pub encodes : EncodesTree tree header chunks
  pub words : (head_of header).w64 ≤ limit
  pub small : (head_of header).length < 2 ^ 48
