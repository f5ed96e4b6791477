-- Sufficient conditions for a match, by 64-bit words.
use Rattle.std.specs.Prelude.{ℕ, ◌≡◌, ◌⊎◌, ◌<◌, ◌≤◌, ◌+◌, ◌*◌, ◌^◌, ◌%◌, List, [], ◌∷◌, length}
use Rattle.std.specs.Prelude.{IsTrue, IsSome, ℤ, Some, slice_get}
use Rattle.base_data.specs.model.Graph.{IsInteger, IsObject}
use Rattle.base_data.specs.declared.model.value.Obj.{Obj}
use Rattle.types_spec.specs.declared.types.shape.Constr.{Constr}
use Rattle.types_spec.specs.declared.types.shape.ShapeOf.{ShapeOf}
use Rattle.types_spec.specs.types.Fitting.{fits_int, object_fields}
use Rattle.marshal_heap.specs.heap.Heap.{integer_word}
use Rattle.marshal_heap.specs.heap.ObjectWords.{header_of}
use Rattle.check_heap.specs.declared.fits.word_conditions.WordConditions.{WordConditions}

-- The header is the row's header or one of the `more` numbers after it.
abbrev pub IsNear : WordConditions → ℕ → Type 0
IsNear row header = (row.header ≤ header) × (header ≤ row.header + row.more)

-- The row of a shape gives sufficient conditions for a match. An integer matches if its word is at
-- most `most`. An object matches if its header is near the row's header, or has the row's tag.
pub record IsRowOf (shape : ShapeOf ℕ) (row : WordConditions) : Type 0 where
  pub ints : (z : ℤ) → IsInteger z → integer_word z ≤ row.most → IsTrue (fits_int shape z)
  pub headers : (n : ℕ) (object : Obj) → IsObject n object → IsNear row (header_of object)
      → IsSome (object_fields shape object)
  pub tags : (n : ℕ) (object : Obj) → IsObject n object → header_of object % 1024 ≡ row.tag
      → IsSome (object_fields shape object)

-- The header of a block with tag 0 and `size` fields. If `size` is too large for a header, the
-- header is 1023, which no object has.
abbrev pub IsSized : ℕ → ℕ → Type 0
IsSized header size = (header ≡ size * 1024) ⊎ ((header ≡ 1023) × (2 ^ 53 ≤ size))

-- The header of the first constructor with arguments. If there is no such constructor, the header
-- is 1023.
abbrev pub IsFirstHeader : List (Constr ℕ) → ℕ → Type 0
IsFirstHeader [] header = header ≡ 1023
IsFirstHeader (constr ∷ blocks) header = IsSized header (length constr.fields)

-- The number of fields of constructor `k`.
abbrev pub IsSizeAt : List (Constr ℕ) → ℕ → ℕ → Type 0
IsSizeAt blocks k size =
    (constr : Constr ℕ) → slice_get blocks k ≡ Some constr → size ≡ length constr.fields

-- The `more` constructors after the first one have as many fields as the first. If the number of
-- fields is too large for a header, `more` is 0.
pub record Agrees (first : Constr ℕ) (blocks : List (Constr ℕ)) (more : ℕ) : Type 0 where
  pub few : more < 244
  pub there : more < length (first ∷ blocks)
  pub small : 2 ^ 53 ≤ length first.fields → more ≡ 0
  pub agree : (k : ℕ) (constr : Constr ℕ) → k ≤ more → slice_get (first ∷ blocks) k ≡ Some constr
      → length constr.fields ≡ length first.fields

-- The first `more + 1` constructors of the list have the same number of fields, stated by index.
pub record AgreeTo (blocks : List (Constr ℕ)) (more : ℕ) : Type 0 where
  pub few : more < 244
  pub there : more < length blocks
  pub agree :
      (k : ℕ) (first constr : Constr ℕ) → k ≤ more → slice_get blocks 0 ≡ Some first
      → slice_get blocks k ≡ Some constr
      → length constr.fields ≡ length first.fields

abbrev pub Agree : List (Constr ℕ) → ℕ → Type 0
Agree [] more = more ≡ 0
Agree (first ∷ blocks) more = Agrees first blocks more
