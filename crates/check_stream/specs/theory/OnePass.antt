-- The result of the streaming check of a value at a type, and the invariant of the streaming check.
use Rattle.std.specs.Prelude.{ℕ, ◌+◌, ◌≤◌, ◌<◌, ◌^◌, ◌≡◌, ◌⊎◌}
use Rattle.std.specs.Prelude.{List, [], ◌∷◌, ◌++◌, length, map, take, All}
use Rattle.std.specs.List.{concat, AllZip}
use Rattle.base_data.specs.declared.model.header.Head.{Head}
use Rattle.types_spec.specs.types.Fitting.{numbered_from}
use Rattle.types_spec.specs.types.Table.{Table, table_shapes}
use Rattle.types_spec.specs.types.Typing.{IsTyping, HasType}
use Rattle.marshal_spec.specs.format.Words.{objects, all_words32, all_words64}
use Rattle.marshal_spec.specs.format.Header.{head_of}
use Rattle.marshal_spec.specs.format.Token.{Token, Encodes, measure_of}
use Rattle.marshal_spec.specs.format.Tree.{Tree, root, objects_of}
use Rattle.marshal_spec.specs.format.Preorder.{EachRefersBack}
use Rattle.marshal_spec.specs.format.Encoded.{EncodedUnder, IsHeader, IsNoReference, StatesWords32}
use Rattle.check_stream.specs.theory.AskedNeeds.{Need, of_type, Asks, type_in}

-- The first `n` bytes encode a value within the limit, and the value has type 0 of the table.
pub record IsTypedPrefix (table : Table) (limit n : ℕ) (bytes : List ℕ) : Type 0 where
  pub within : n ≤ length bytes
  pub tree : Tree
  pub encoded : EncodedUnder limit (take n bytes) tree
  pub typed : HasType (table_shapes table) (objects_of tree 0) (root tree 0) 0

-- The value has type 0 of the table, and `types` are the types of the value's objects by number.
pub record AreTypesOf
    (noted : List (ℕ × ℕ)) (table : Table) (tree : Tree) (types : List ℕ)
    : Type 0 where
  pub many : length types ≡ length (objects_of tree 0)
  pub typing : IsTyping (table_shapes table) (objects_of tree 0) (numbered_from 0 types ++ noted)
  pub typed : HasType (table_shapes table) (objects_of tree 0) (root tree 0) 0

-- From the start, the tokens lead to objects of these types and to these open positions.
pub data PassedTokens
    (noted : List (ℕ × ℕ)) (table : Table)
    : List Token → List ℕ → List Need → Type 0 where
  start : PassedTokens noted table [] [] (of_type 0 ∷ [])
  further :
      (tokens : List Token) (types : List ℕ) (need : Need) (needs next : List Need) (token : Token)
      → PassedTokens noted table tokens types (need ∷ needs)
      → Asks noted table types need token next
      → PassedTokens noted table (tokens ++ token ∷ []) (types ++ type_in need token)
      (next ++ needs)

-- The invariant of the pass. The first `n` bytes are a header, of `start` bytes, and the encodings
-- of the tokens. The objects so far have the types `types`, and the open positions have the
-- requirements `needs`.
pub record IsPassing
    (noted : List (ℕ × ℕ)) (table : Table) (limit : ℕ) (bytes : List ℕ) (head : Head) (start n : ℕ)
    (tokens : List Token) (types : List ℕ) (needs : List Need)
    : Type 0 where
  pub header : List ℕ
  pub chunks : List (List ℕ)
  pub within : n ≤ length bytes
  pub is_header : IsHeader header
  pub head_is : head_of header ≡ head
  pub begins : length header ≡ start
  pub taken : take n bytes ≡ header ++ concat chunks
  pub encodes : AllZip Encodes tokens chunks
  pub refer_back : EachRefersBack 0 tokens
  pub made : objects (map measure_of tokens) ≡ length types
  pub unshared : head.objects ≡ 0 → All IsNoReference tokens
  pub passed : PassedTokens noted table tokens types needs
  pub words : head.w64 ≤ limit
  pub small : head.length < 2 ^ 48

-- The header states the number of data bytes that were read, and the sizes in words. The header
-- also states the number of objects, or states 0 objects.
pub record EndsPass (head : Head) (start n : ℕ) (tokens : List Token)
    (types : List ℕ) : Type 0 where
  pub whole : n ≡ start + head.length
  pub w32 : StatesWords32 head.big head.w32 (all_words32 (map measure_of tokens))
  pub w64 : head.w64 ≡ all_words64 (map measure_of tokens)
  pub count : (head.objects ≡ 0) ⊎ (head.objects ≡ length types)
