-- Properties of pairs before it is known that all of them fit.
use Rattle.std.specs.Prelude.{ℕ, ◌≡◌, ◌<◌, List, length, IsTrue, Some, Contains, slice_get}
use Rattle.base_data.specs.model.Graph.{IsValue}
use Rattle.base_data.specs.declared.model.value.Val.{Val}
use Rattle.base_data.specs.declared.model.value.Val.TheVariants as vals
use Rattle.base_data.specs.declared.model.value.Obj.{Obj}
use Rattle.marshal_heap.specs.heap.Heap.{word_of}
use Rattle.types_spec.specs.types.Table.{Table, table_shapes, is_asked_in}
use Rattle.types_spec.specs.types.Typing.{IsHeld}
use Rattle.cert_verify.specs.declared.certificate.right.Worded.{Worded}
use Rattle.cert_verify.specs.certificate.Testing.{IsRightAt, AreRight}

-- The object of each pair fits its type.
abbrev pub AllFit : Table → List Obj → List (ℕ × ℕ) → Type 0
AllFit table graph pairs =
    (o t : ℕ) → Contains pairs (o, t) → (table_shapes table).fits graph (vals.Ref o) t

-- If all pairs fit and the type is not a wildcard, then the value of the word is held at the type.
abbrev pub IsBacked : Table → List Obj → List (ℕ × ℕ) → ℕ → ℕ → Type 0
IsBacked table graph pairs word t =
    (v : Val) → IsValue (length graph) v → word ≡ word_of graph v → IsTrue (is_asked_in table t)
    → AllFit table graph pairs → IsHeld (table_shapes table) graph pairs v t

-- `pair` is one of the pairs, with the word of its object. If pair `i` exists, then `pair` is pair
-- `i`.
pub record IsWorded (graph : List Obj) (pairs : List (ℕ × ℕ)) (i : ℕ) (pair : Worded)
    : Type 0 where
  pub at : i < length pairs → slice_get pairs i ≡ Some (pair.object, pair.ty)
  pub among : Contains pairs (pair.object, pair.ty)
  pub named : pair.word ≡ word_of graph (vals.Ref pair.object)

-- Pair `i` fits: its object fits its type.
abbrev pub FitsAt : Table → List Obj → List (ℕ × ℕ) → ℕ → Type 0
FitsAt table graph pairs i =
    (pair : ℕ × ℕ) → slice_get pairs i ≡ Some pair
    → (table_shapes table).fits graph (vals.Ref pair.0) pair.1

-- Pair `i` fits. If all pairs fit, pair `i` is right.
pub record IsRightWithAll (table : Table) (graph : List Obj) (pairs : List (ℕ × ℕ))
    (i : ℕ) : Type 0 where
  pub fits : FitsAt table graph pairs i
  pub right : AllFit table graph pairs → IsRightAt table graph pairs i

-- The first `n` pairs fit. If all pairs fit, the first `n` pairs are right.
pub record AreRightWithAll (table : Table) (graph : List Obj) (pairs : List (ℕ × ℕ))
    (n : ℕ) : Type 0 where
  pub fit : (k : ℕ) → k < n → FitsAt table graph pairs k
  pub right : AllFit table graph pairs → AreRight table graph pairs n
