-- Parts of typed values are typed.
use Rattle.std.proofs.Common.{ℕ, zero, suc, ◌≡◌, ◌<◌, ◌∙◌, inl, Bool, true, false, List, [], ◌∷◌, length, refl, sym, ap, arith, Option, Some, None, ℤ, pos, negsuc, FitsSigned, w64, to_z, of_z}
use Rattle.std.specs.Prelude.{All, Contains, IsSome, IsTrue, slice_get, option_and_then}
use Rattle.std.proofs.lemmas.List.Elements.{All-contains}
use Rattle.std.proofs.lemmas.Option.{none-some, slice_get_within, get_or_from_slice_get}
use Rattle.std.proofs.lemmas.Int.{ints, to_z-of_z}
use Rattle.base_data.specs.model.Graph.{IsInteger}
use Rattle.base_data.specs.declared.model.value.Val.{Val}
use Rattle.base_data.specs.declared.model.value.Val.TheVariants as vals
use Rattle.base_data.specs.declared.model.value.Obj.{Obj}
use Rattle.base_data.specs.declared.model.value.Obj.TheVariants as objects
use Rattle.base_data.specs.model.Graph.{IsValue}
use Rattle.base_data.proofs.model.Options.{IsSomeAnd-some, Contains-first, Contains-none, slice_get-Contains, slice_get_there}
use Rattle.types_spec.specs.declared.types.shape.ShapeOf.{ShapeOf}
use Rattle.types_spec.specs.types.Fitting.{fields_of, or_none, none_if, fits_int, is_asked}
use Rattle.types_spec.proofs.types.TypeAskedLemmas.{asked_is}
use Rattle.types_spec.proofs.types.TypeWildcardLemmas.{int_fits, atom_fits, object_fits, pair_typing}
use Rattle.types_spec.specs.types.Reached.{named_in}
use Rattle.types_spec.specs.types.Table.{Table, table_shapes, node_or_none}
use Rattle.types_spec.specs.types.Typing.{values_of, field_at, IsListed, IsHeld, IsTyping, HasType}
use Rattle.types_theory.proofs.equality.EqualityReachedLemmas.{needs_named}
use Rattle.types_table.specs.type_table.Made.{IsLawful}
use Rattle.marshal_heap.specs.heap.Heap.{object_at}
use Rattle.marshal_heap.specs.heap.Heap.{fields_of as parts_of, field_at as part_at}
use Rattle.text_print.specs.print.Typed.{IsTypedAt}

-- ---- an integer matches its type

word_wide : (z : ℤ) → IsInteger z → FitsSigned w64 z
word_wide (pos n) h = omega (arith, ints)
word_wide (negsuc n) h = omega (arith, ints)

pub integer_kept : (z : ℤ) → IsInteger z → to_z w64 (of_z w64 z) ≡ z
integer_kept z h = to_z-of_z w64 z (word_wide z h)

if_fits : (b : Bool) → IsSome (none_if {T = ℕ} b) → IsTrue b
if_fits true some = refl
if_fits false some = absurd (cc)

pub integer_fits : (table : Table) (graph : List Obj) (z : ℤ) (t : ℕ) → IsTypedAt table graph (vals.Int z) t → IsTrue (fits_int (node_or_none (slice_get table.nodes t)) z)
integer_fits table graph z t typed = if_fits (fits_int (node_or_none (slice_get table.nodes t)) z) typed.held.fits

-- ---- typed values

nothing_typed : (table : Table) (graph : List Obj) → IsTyping (table_shapes table) graph []
nothing_typed table graph = record {
  fits = λ o t among. absurd (Contains-none (o, t) among);
  held = λ o t i u among needed. absurd (Contains-none (o, t) among);
  one_type = λ o t u among again mutable. absurd (Contains-none (o, t) among);
}

pub typed_at : (table : Table) (graph : List Obj) (v : Val) (t : ℕ) → t < length table.nodes → HasType (table_shapes table) graph v t → IsTypedAt table graph v t
typed_at table graph (vals.Int z) t number has = record { number = number; pairs = []; typing = nothing_typed table graph; held = record { fits = has.fits; listed = tt } }
typed_at table graph (vals.Atom tag) t number has = record { number = number; pairs = []; typing = nothing_typed table graph; held = record { fits = has.fits; listed = tt } }
typed_at table graph (vals.Ref o) t number has = record {
  number = number;
  pairs = has.typed.0;
  typing = has.typed.1;
  held = record { fits = has.fits; listed = (t, has.typed.2, refl) };
}

-- Each value of the graph has a wildcard type.
module _ (table : Table) (graph : List Obj) where
  abbrev node : ℕ → ShapeOf ℕ
  node i = node_or_none (slice_get table.nodes i)

  abbrev Same : ℕ → ℕ → Type 0
  Same i j = slice_get table.classes i ≡ slice_get table.classes j

  pub wildcard_at : (v : Val) (u : ℕ) → IsValue (length graph) v → u < length table.nodes → is_asked (node_or_none (slice_get table.nodes u)) ≡ false → IsTypedAt table graph v u
  wildcard_at (vals.Int z) u valid number wildcard = record { number = number; pairs = []; typing = nothing_typed table graph; held = record { fits = int_fits node Same graph u wildcard refl z; listed = tt } }
  wildcard_at (vals.Atom tag) u valid number wildcard = record { number = number; pairs = []; typing = nothing_typed table graph; held = record { fits = atom_fits node Same graph u wildcard refl tag; listed = tt } }
  wildcard_at (vals.Ref o) u valid number wildcard =
      let at = slice_get_there graph o valid in record {
        number = number;
        pairs = (o, u) ∷ [];
        typing = pair_typing node Same graph u wildcard refl o at.0 at.1;
        held = record { fits = object_fits node Same graph u wildcard refl o at.0 at.1; listed = (u, Contains-first {X = ℕ × ℕ} (o, u) [], refl) };
      }

-- ---- existing fields

same_parts : (object : Obj) → values_of object ≡ parts_of object
same_parts (objects.Block tag values) = refl
same_parts (objects.Bytes bytes) = refl
same_parts (objects.Double bits) = refl
same_parts (objects.Doubles all) = refl
same_parts (objects.I32 z) = refl
same_parts (objects.I64 z) = refl
same_parts (objects.Native z) = refl

pub record IsThere (graph : List Obj) (o i : ℕ) (v : Val) : Type 0 where
  pub inside : i < length (parts_of (object_at graph o))
  pub is : part_at graph o i ≡ v

there_in : (graph : List Obj) (o i : ℕ) (v : Val) (found : Option Obj) → slice_get graph o ≡ found → option_and_then (λ object. slice_get (values_of object) i) found ≡ Some v → IsThere graph o i v
there_in graph o i v None at_o is = absurd (none-some v is)
there_in graph o i v (Some object) at_o is =
    let here : object_at graph o ≡ object = get_or_from_slice_get graph o object (objects.I32 (pos 0)) at_o in
    let at_i : slice_get (parts_of (object_at graph o)) i ≡ Some v = ap (λ x. slice_get (parts_of x) i) here ∙ ap (λ vs. slice_get vs i) (sym (same_parts object)) ∙ is in record {
      inside = slice_get_within (parts_of (object_at graph o)) i v at_i;
      is = get_or_from_slice_get (parts_of (object_at graph o)) i v (vals.Int (pos 0)) at_i;
    }

pub there : (graph : List Obj) (o i : ℕ) (v : Val) → field_at graph o i ≡ Some v → IsThere graph o i v
there graph o i v is = there_in graph o i v (slice_get graph o) refl is

-- ---- the parts of a typed object

module _ (table : Table) (graph : List Obj) (lawful : IsLawful table) where
  -- The types of an object's fields are numbers of the table.
  pub named_below : (i u : ℕ) (node : ShapeOf ℕ) (v : Val) (found : Option (ShapeOf ℕ)) (t : ℕ) → slice_get table.nodes t ≡ found → Contains (or_none (fields_of graph v (node_or_none found))) (i, u) → t < length table.nodes → u < length table.nodes
  named_below i u node v None t at_t needed within = absurd (no_node t table.nodes within at_t) where
    no_node : {X : Type 0} (t : ℕ) (xs : List X) → t < length xs → slice_get xs t ≡ None → ⊥
    no_node t [] less is = omega arith
    no_node zero (x ∷ xs) less is = none-some x (sym is)
    no_node (suc t) (x ∷ xs) less is = no_node t xs (omega arith) is
  named_below i u node v (Some shape) t at_t needed within =
      All-contains (λ j. j < length table.nodes) (named_in shape) u
      (All-contains (λ s. All (λ j. j < length table.nodes) (named_in s)) table.nodes shape lawful.closed (slice_get-Contains table.nodes t shape at_t))
      (needs_named shape graph v i u needed)

  listed_too : (pairs : List (ℕ × ℕ)) (v : Val) (b u : ℕ) → (table_shapes table).equal b u → IsListed (table_shapes table) pairs v b → IsListed (table_shapes table) pairs v u
  listed_too pairs (vals.Int z) b u equal listed = tt
  listed_too pairs (vals.Atom tag) b u equal listed = tt
  listed_too pairs (vals.Ref o) b u equal listed = (listed.0, listed.1, listed.2 ∙ equal)

  pub part_typed : (o t i u : ℕ) → IsTypedAt table graph (vals.Ref o) t → Contains ((table_shapes table).needs graph (vals.Ref o) t) (i, u)
      → (v : Val) × (field_at graph o i ≡ Some v) × IsTypedAt table graph v u
  part_typed o t i u typed needed =
      let shapes = table_shapes table in
      let other = typed.held.listed.0 in
      let same : shapes.equal other t = typed.held.listed.2 in
      let also = lawful.lawful.needs graph (vals.Ref o) t other i u (inl tt) (sym same) needed in
      let equal : shapes.equal also.0 u = sym also.2 in
      let found = IsSomeAnd-some (field_at graph o i) (λ v. IsHeld shapes graph typed.pairs v also.0) (typed.typing.held o other i also.0 typed.held.listed.1 also.1) in (
        found.0,
        found.1,
        record {
          number = named_below i u (node_or_none (slice_get table.nodes t)) (vals.Ref o) (slice_get table.nodes t) t refl (asked_is (λ k. node_or_none (slice_get table.nodes k)) (or_none (fields_of graph (vals.Ref o) (node_or_none (slice_get table.nodes t)))) i u needed).0 typed.number;
          pairs = typed.pairs;
          typing = typed.typing;
          held = record {
            fits = lawful.lawful.fits graph found.0 also.0 u (inl tt) equal found.2.fits;
            listed = listed_too typed.pairs found.0 also.0 u equal found.2.listed;
          };
        },
      )
