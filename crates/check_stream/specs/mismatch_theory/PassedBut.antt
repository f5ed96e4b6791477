-- Tokens of a value that satisfy their requirements except at mismatches. At and below a mismatch
-- nothing is required. Each open position has a trail, and each object has the trail of its
-- position.
use Rattle.std.specs.Prelude.{ℕ, suc, ◌+◌, ◌-◌, ◌≤◌, ◌≡◌, ◌⊎◌, false, IsTrue, IsSome, ℤ}
use Rattle.std.specs.Prelude.{List, [], ◌∷◌, ◌++◌, length, replicate, slice_get, Option, Some, None}
use Rattle.std.specs.Prelude.{Contains}
use Rattle.types_spec.specs.declared.types.shape.PolyTag.{PolyTag}
use Rattle.types_spec.specs.types.Fitting.{tag_with, fits_int, fits_atom, object_fields}
use Rattle.types_spec.specs.types.Table.{Table, table_shapes}
use Rattle.marshal_spec.specs.format.Token.{Token, integer, atom, shared, block, leaf}
use Rattle.check_stream.specs.theory.AskedNeeds.{Need, of_type, hash_of, values_in, shape_at}
use Rattle.check_stream.specs.theory.AskedNeeds.{IsWildcard}
use Rattle.check_stream.specs.theory.AskedNeeds.{fields_ask}
use Rattle.check_stream.specs.theory.Noted.{IsFlatNoted}

-- An open position, with its requirement and its trail. Below a mismatch, the requirement is
-- `None`. The trail begins with the object and the field at the position. The trail of the root is
-- empty.
pub record OpenPosition : Type 0 where
  pub asks : Option Need
  pub trail : List (ℕ × ℕ)

-- The number of values to be read for a position. A position that requires a hash takes two values:
-- the hash and its argument.
abbrev pub values_of : Option Need → ℕ
values_of None = 1
values_of (Some need) = values_in (need ∷ [])

abbrev pub values_at : List OpenPosition → ℕ
values_at [] = 0
values_at (position ∷ positions) = values_of position.asks + values_at positions

-- An object, with the type that its position requires and the trail of its position. At or below a
-- mismatch, the type is `None`.
pub record MadeObject : Type 0 where
  pub type : Option ℕ
  pub trail : List (ℕ × ℕ)

-- A mismatch: the trail of its position, the required type at the position, and the token that was
-- found.
pub record Missed : Type 0 where
  pub trail : List (ℕ × ℕ)
  pub type : ℕ
  pub token : Token

-- The positions of an object's fields from field `k` on. A requirement for a hash covers two
-- fields.
abbrev pub positions_of : ℕ → List (ℕ × ℕ) → ℕ → List Need → List OpenPosition
positions_of o trail k [] = []
positions_of o trail k (need ∷ needs) =
    record { asks = Some need; trail = (o, k) ∷ trail }
    ∷ positions_of o trail (k + values_in (need ∷ [])) needs

-- The trail of the field after the field at the head of the trail.
abbrev pub field_after : List (ℕ × ℕ) → List (ℕ × ℕ)
field_after [] = []
field_after (link ∷ trail) = (link.0, suc link.1) ∷ trail

-- The positions of a token's fields if nothing is required of the fields.
abbrev pub unasked : Token → List OpenPosition
unasked (integer z) = []
unasked (atom tag) = []
unasked (shared offset) = []
unasked (block tag size) = replicate size record { asks = None; trail = [] }
unasked (leaf object) = []

-- The list with the object that a token creates at a position. If the token creates no object, the
-- list is empty.
abbrev pub made_in : Option ℕ → List (ℕ × ℕ) → Token → List MadeObject
made_in type trail (integer z) = []
made_in type trail (atom tag) = []
made_in type trail (shared offset) = []
made_in type trail (block tag size) = record { type = type; trail = trail } ∷ []
made_in type trail (leaf object) = record { type = type; trail = trail } ∷ []

-- The type that a requirement states for the object at the position. A requirement for a hash
-- states no type, because a hash creates no object.
abbrev pub type_of_need : Need → Option ℕ
type_of_need (of_type t) = Some t
type_of_need (hash_of tags) = None

-- Object `o` is a flat block that satisfies the requirements of the type `t`. The fields of the
-- block are integers, atoms and wildcards, because the types of referenced objects are not used.
abbrev pub IsPlain : Table → List Token → ℕ → ℕ → Type 0
IsPlain table tokens o t = IsFlatNoted table [] [] tokens o t

-- The type that the object's first position required equals `t`.
pub record HasFirst (table : Table) (made : List MadeObject) (o t : ℕ) : Type 0 where
  pub type : ℕ
  pub trail : List (ℕ × ℕ)
  pub at : slice_get made o ≡ Some record { type = Some type; trail = trail }
  pub equal : (table_shapes table).equal type t

-- A reference leads back to an object whose first type or second type is `t`. The object is
-- recorded in `back`.
pub record IsLedBack
    (back : List ℕ) (table : Table) (Second : ℕ → ℕ → Type 0) (made : List MadeObject)
    (t offset : ℕ)
    : Type 0 where
  pub some : 1 ≤ offset
  pub few : offset ≤ length made
  pub typed : HasFirst table made (length made - offset) t ⊎ Second (length made - offset) t
  pub noted : Contains back (length made - offset)

-- The tag with this hash has an argument, and `next` is the position of the argument.
pub record IsTaggedBut (tags : List (PolyTag ℕ)) (z : ℤ) (trail : List (ℕ × ℕ))
    (next : List OpenPosition)
    : Type 0 where
  pub tag : PolyTag ℕ
  pub has_hash : tag_with tags z ≡ Some tag
  pub type : ℕ
  pub has_argument : tag.arg ≡ Some type
  pub argument : next ≡ record { asks = Some (of_type type); trail = field_after trail } ∷ []

-- The token satisfies the requirement of its position, given the second types of objects, and opens
-- the positions `next`.
abbrev pub Takes :
    List ℕ → Table → (ℕ → ℕ → Type 0) → List MadeObject → List (ℕ × ℕ) → Need → Token
    → List OpenPosition
    → Type 0
Takes back table Second made trail (of_type t) (integer z) next =
    IsTrue (fits_int (shape_at table t) z) × (next ≡ [])
Takes back table Second made trail (of_type t) (atom tag) next =
    IsTrue (fits_atom (shape_at table t) tag) × (next ≡ [])
Takes back table Second made trail (of_type t) (shared offset) next =
    (IsWildcard table t ⊎ IsLedBack back table Second made t offset) × (next ≡ [])
Takes back table Second made trail (of_type t) (block tag size) next =
    (needs : List Need) × (fields_ask table t tag size ≡ Some needs)
    × (next ≡ positions_of (length made) trail 0 needs)
Takes back table Second made trail (of_type t) (leaf object) next =
    IsSome (object_fields (shape_at table t) object) × (next ≡ [])
Takes back table Second made trail (hash_of tags) (integer z) next = IsTaggedBut tags z trail next
Takes back table Second made trail (hash_of tags) (atom tag) next = ⊥
Takes back table Second made trail (hash_of tags) (shared offset) next = ⊥
Takes back table Second made trail (hash_of tags) (block tag size) next = ⊥
Takes back table Second made trail (hash_of tags) (leaf object) next = ⊥

-- The token certainly does not match a position of the type. A reference never certainly
-- mismatches.
abbrev pub Misses : Table → ℕ → Token → Type 0
Misses table t (integer z) = fits_int (shape_at table t) z ≡ false
Misses table t (atom tag) = fits_atom (shape_at table t) tag ≡ false
Misses table t (shared offset) = ⊥
Misses table t (block tag size) = fields_ask table t tag size ≡ None
Misses table t (leaf object) = object_fields (shape_at table t) object ≡ None

-- The tokens lead from the start to these objects, open positions and mismatches. The objects to
-- which references lead back, from positions with a requirement, are recorded in `back`.
pub data PassedBut
    (back : List ℕ) (table : Table)
    : List Token → List MadeObject → List OpenPosition → List Missed → Type 0 where
  begin :
      PassedBut back table [] [] (record { asks = Some (of_type 0); trail = [] } ∷ []) []
  fitting :
      (tokens : List Token) (made : List MadeObject) (need : Need) (trail : List (ℕ × ℕ))
      (positions next : List OpenPosition) (missed : List Missed) (token : Token)
      → PassedBut back table tokens made (record { asks = Some need; trail = trail } ∷ positions)
      missed
      → Takes back table (IsPlain table tokens) made trail need token next
      → PassedBut back table (tokens ++ token ∷ [])
      (made ++ made_in (type_of_need need) trail token) (next ++ positions) missed
  missing :
      (tokens : List Token) (made : List MadeObject) (t : ℕ) (trail : List (ℕ × ℕ))
      (positions : List OpenPosition) (missed : List Missed) (token : Token)
      → PassedBut back table tokens made
      (record { asks = Some (of_type t); trail = trail } ∷ positions) missed
      → Misses table t token
      → PassedBut back table (tokens ++ token ∷ []) (made ++ made_in None trail token)
      (unasked token ++ positions)
      (missed ++ record { trail = trail; type = t; token = token } ∷ [])
  below :
      (tokens : List Token) (made : List MadeObject) (trail : List (ℕ × ℕ))
      (positions : List OpenPosition)
      (missed : List Missed) (token : Token)
      → PassedBut back table tokens made (record { asks = None; trail = trail } ∷ positions) missed
      → PassedBut back table (tokens ++ token ∷ []) (made ++ made_in None [] token)
      (unasked token ++ positions) missed
