-- The part of a value that was read: the header, the complete tokens, the totals after the tokens,
-- and the graph that the tokens build.
use Rattle.std.specs.Prelude.{ℕ, ◌≡◌, ◌≢◌, ◌-◌, ◌<◌, ◌≤◌, List, length, take, All, Some, None}
use Rattle.std.specs.Prelude.{Result, Ok, Err}
use Rattle.std.specs.List.{AllZip}
use Rattle.base_data.specs.declared.model.refusal.ReadRefusal.{ReadRefusal}
use Rattle.base_data.specs.declared.model.refusal.ReadRefusal.TheVariants.{Memory}
use Rattle.marshal_spec.specs.format.Raw.{raw_length}
use Rattle.marshal_spec.specs.format.Step.{first_refusal, token_steps}
use Rattle.marshal_spec.specs.format.Token.{Token, IsToken, Encodes}
use Rattle.marshal_spec.specs.format.Tree.{Tree, root, objects_of}
use Rattle.base_data.specs.model.Graph.{IsValue}
use Rattle.marshal_spec.specs.format.Prefix.{context, with_next, IsRefused}
use Rattle.marshal_read.specs.declared.unread.Unread.{Unread}
use Rattle.marshal_read.specs.declared.unread.Unread.TheVariants.{NeedMore, Refused}
use Rattle.marshal_read.specs.declared.read_totals.ReadTotals.{ReadTotals}
use Rattle.marshal_read.specs.declared.returned_value.Value.{Value}
use Rattle.marshal_read.specs.Totals.{AreTotals}
use Rattle.marshal_read.specs.Build.{Bounded, start, absorb_all}

-- `position` has the totals after the header and the tokens `before`. The graph `state` is built
-- from the tokens that the bytes encode, within the words that the header states.
pub record BuildsGraph (header : List ℕ) (before : List (List ℕ)) (position : ReadTotals)
    (state : Bounded)
    : Type 0 where
  pub tokens : List Token
  pub sums : AreTotals position (context header before)
  pub encodes : AllZip Encodes tokens before
  pub are_tokens : All IsToken tokens
  pub builds : state.built ≡ absorb_all start tokens
  pub room : state.room ≡ position.head.w64

-- The result of the next token in the remaining bytes: a refusal, an incomplete token, or the
-- totals after the token.
abbrev pub NextOf : List ℕ → List (List ℕ) → List ℕ → Bounded → Result ReadTotals Unread → Type 0
NextOf header before rest state (Err NeedMore) =
    (first_refusal (length rest) (token_steps (context header before) rest) ≡ None)
    × (length rest < raw_length rest)
NextOf header before rest state (Err (Refused r)) =
    r ≢ Memory → first_refusal (length rest) (token_steps (context header before) rest) ≡ Some r
NextOf header before rest state (Ok next) =
    (first_refusal (length rest) (token_steps (context header before) rest) ≡ None)
    × (raw_length rest ≤ length rest) × BuildsGraph header (with_next before rest) next state

-- One token is read and leads to the new state, or nothing is read and nothing changes. If the last
-- token is read, then all data are read.
abbrev pub TakesOne : List ℕ → List (List ℕ) → List ℕ → ReadTotals → Bounded → ReadTotals → Bounded
    → ℕ
    → Type 0
TakesOne header before bytes position state next new n =
    (n ≡ 0 → (next ≡ position) × (new ≡ state))
    × (0 < n
    → (n ≡ next.taken - position.taken) × (next.pending ≡ 0 → next.taken ≡ next.head.length)
    × NextOf header before bytes new (Ok next))

-- ---- a whole value

-- The value is the root value of the tree, with objects numbered from 0.
pub record IsValueOf (value : Value) (tree : Tree) : Type 0 where
  pub heap : value.heap ≡ objects_of tree 0
  pub root : value.root ≡ root tree 0
  pub valid : IsValue (length value.heap) value.root

-- `P` holds, unless the refusal is that memory ran out.
abbrev pub UnlessMemory : ReadRefusal → Type 0 → Type 0
UnlessMemory Memory P = Unit {0}
UnlessMemory refusal P = P

-- Some prefix of the bytes is refused with this refusal, or memory ran out.
abbrev pub RefusedIn : ℕ → List ℕ → ReadRefusal → Type 0
RefusedIn limit bytes refusal =
    UnlessMemory refusal ((n : ℕ) × (n ≤ length bytes) × IsRefused limit (take n bytes) refusal)
