-- Objects that are referenced at a second type. An object with a recorded second type is a flat
-- block that satisfies the requirements of the second type. A block is flat if its fields create no
-- objects.
use Rattle.std.specs.Prelude.{ℕ, ◌+◌, ◌≡◌, ◌⊎◌, List, [], ◌∷◌, ◌++◌, length, map, slice_get}
use Rattle.std.specs.Prelude.{Some, IsTrue, Contains, ℤ}
use Rattle.base_data.specs.declared.model.value.Val.{Val}
use Rattle.base_data.specs.declared.model.value.Val.TheVariants as vals
use Rattle.base_data.specs.declared.model.value.Obj.TheVariants as objects
use Rattle.types_spec.specs.declared.types.shape.PolyTag.{PolyTag}
use Rattle.types_spec.specs.types.Fitting.{tag_with, fits_int, fits_atom, is_mutable}
use Rattle.types_spec.specs.types.Table.{Table, table_shapes}
use Rattle.marshal_spec.specs.format.Token.{Token, integer, atom, shared, block, leaf}
use Rattle.marshal_spec.specs.format.Tree.{made_by, value_of}
use Rattle.check_stream.specs.theory.AskedNeeds.{Need, of_type, hash_of, shape_at, block_needs}
use Rattle.check_stream.specs.theory.AskedNeeds.{IsWildcard}

module _ (table : Table) (all : List ℕ) (noted : List (ℕ × ℕ)) where
  -- A value satisfies the requirement of a position of the type, given the types of all objects.
  abbrev pub IsAt : Val → ℕ → Type 0
  IsAt (vals.Int z) t = IsTrue (fits_int (shape_at table t) z)
  IsAt (vals.Atom tag) t = IsTrue (fits_atom (shape_at table t) tag)
  IsAt (vals.Ref o) t =
      IsWildcard table t
      ⊎ ((u : ℕ) × ((slice_get all o ≡ Some u) ⊎ Contains noted (o, u))
      × (table_shapes table).equal u t)

  -- The value is the hash of a tag that has an argument of this type. The position of the argument
  -- opens when the hash is known.
  pub record HasHash (tags : List (PolyTag ℕ)) (v : Val) (type : ℕ) : Type 0 where
    pub hash : ℤ
    pub is_hash : v ≡ vals.Int hash
    pub tag : PolyTag ℕ
    pub has_hash : tag_with tags hash ≡ Some tag
    pub has_argument : tag.arg ≡ Some type

  -- The values satisfy the requirements of the positions, one by one.
  abbrev pub AreAt : List Val → List Need → Type 0
  AreAt [] [] = Unit {0}
  AreAt [] (need ∷ needs) = ⊥
  AreAt (v ∷ vs) [] = ⊥
  AreAt (v ∷ vs) (of_type t ∷ needs) = IsAt v t × AreAt vs needs
  AreAt (v ∷ vs) (hash_of tags ∷ needs) =
      (t : ℕ) × HasHash tags v t × AreAt vs (of_type t ∷ needs)

-- The token creates no object.
abbrev pub IsFlat : Token → Type 0
IsFlat (integer z) = Unit {0}
IsFlat (atom tag) = Unit {0}
IsFlat (shared offset) = Unit {0}
IsFlat (block tag size) = ⊥
IsFlat (leaf object) = ⊥

abbrev pub AreFlat : List Token → Type 0
AreFlat [] = Unit {0}
AreFlat (t ∷ ts) = IsFlat t × AreFlat ts

-- The tokens, which follow `c` objects, contain a block with tag `tag`. The block is object `o`,
-- and the flat tokens of the block's fields follow directly.
abbrev pub Stands : ℕ → List Token → ℕ → ℕ → List Token → Type 0
Stands c [] o tag flat = ⊥
Stands c (token ∷ ts) o tag flat =
    ((rest : List Token) × (token ≡ block tag (length flat)) × (o ≡ c) × AreFlat flat
    × (ts ≡ flat ++ rest))
    ⊎ Stands (c + made_by token) ts o tag flat

-- The values of the flat fields of object `o`.
abbrev pub flat_values : ℕ → List Token → List Val
flat_values o flat = map (λ u. value_of u (o + 1)) flat

-- Object `o` is a flat block whose fields satisfy the requirements of the type `t`. The block is
-- mutable neither at the type `t` nor at its first type.
pub record IsFlatNoted
    (table : Table) (all : List ℕ) (noted : List (ℕ × ℕ)) (ts : List Token) (o t : ℕ)
    : Type 0 where
  pub tag : ℕ
  pub flat : List Token
  pub next : List Need
  pub stands : Stands 0 ts o tag flat
  pub asked : block_needs (shape_at table t) tag (length (flat_values o flat)) ≡ Some next
  pub at : AreAt table all noted (flat_values o flat) next
  pub fixed :
      IsTrue (is_mutable (shape_at table t) (Some (objects.Block tag (flat_values o flat)))) → ⊥
  pub first_fixed :
      (u : ℕ) → slice_get all o ≡ Some u
      → IsTrue (is_mutable (shape_at table u) (Some (objects.Block tag (flat_values o flat)))) → ⊥
