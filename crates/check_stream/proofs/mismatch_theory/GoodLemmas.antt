-- The invariant of an object: the object matches its type, its fields are placed, and its trail
-- leads to the object.
use Rattle.std.proofs.Common.{ℕ, ◌≡◌, ◌∙◌, List, [], ◌∷◌, length, Bool, true, false, Option, Some, refl, sym, ap, subst}
use Rattle.std.specs.Prelude.{slice_get, IsSome, IsTrue, Contains, map, replicate, option_and_then, if◌then◌else◌}
use Rattle.std.proofs.lemmas.Bool.{false≢true}
use Rattle.base_data.proofs.model.Options.{Contains-none}
use Rattle.base_data.specs.declared.model.value.Val.{Val}
use Rattle.base_data.specs.declared.model.value.Val.TheVariants as vals
use Rattle.base_data.specs.declared.model.value.Obj.{Obj}
use Rattle.base_data.specs.declared.model.value.Obj.TheVariants as objects
use Rattle.types_spec.specs.declared.types.shape.PolyTag.{PolyTag}
use Rattle.types_spec.specs.declared.types.shape.ShapeOf.{ShapeOf}
use Rattle.types_spec.specs.declared.types.shape.ShapeOf.TheVariants as shapes
use Rattle.types_spec.specs.types.Fitting.{or_none, object_fields, block_fields, tag_fields, argument_field, is_asked}
use Rattle.types_spec.specs.types.Table.{Table, table_shapes, is_asked_in}
use Rattle.types_spec.specs.types.Typing.{values_of}
use Rattle.types_spec.proofs.types.TypeAskedLemmas.{need_typed}
use Rattle.marshal_spec.specs.format.Token.{IsLeaf}
use Rattle.check_stream.specs.theory.AskedNeeds.{Need, of_type, hash_of, shape_at, block_needs, fields_ask}
use Rattle.check_stream.proofs.theory.PassLemmas.{leaf_needs}
use Rattle.check_stream.specs.mismatch_theory.PassedBut.{MadeObject}
use Rattle.check_stream.proofs.mismatch_theory.BridgeLemmas.{IsFrom, IsField}
use Rattle.check_stream.proofs.mismatch_theory.MismatchFieldLemmas.{AreFields, numbered, tagged, fields_are}
use Rattle.check_stream.proofs.mismatch_theory.MismatchPlacedLemmas.{ArePlaced, fields_placed}
use Rattle.check_stream.proofs.mismatch_theory.RealLemmas.{IsRealIf, real_from}

-- A block at a wildcard has no required fields.
wildcard_fields : (shape : ShapeOf ℕ) (tag : ℕ) (values : List Val) → is_asked shape ≡ false → block_fields shape tag values ≡ Some []
wildcard_fields shapes.Anything tag values wildcard = refl
wildcard_fields shape tag values wildcard = absurd (false≢true (sym wildcard))

module _ (table : Table) (graph : List Obj) (all : List MadeObject) (back : List ℕ) (noted : List (ℕ × ℕ)) (whole : Val) (missed : List (ℕ × ℕ)) where
  pub record IsGoodBut (o t : ℕ) (trail : List (ℕ × ℕ)) : Type 0 where
    pub fits : (table_shapes table).fits graph (vals.Ref o) t
    pub fields : (i a : ℕ) → Contains ((table_shapes table).needs graph (vals.Ref o) t) (i, a) → IsField table graph all back noted whole missed o i trail a
    pub way : IsTrue (is_asked_in table t) → IsFrom table graph all back noted whole missed trail o t

  module _ (o t : ℕ) (trail : List (ℕ × ℕ)) (real : IsRealIf table graph all whole trail (vals.Ref o) t) where
    -- If an object matches its type and its fields are placed, then the object satisfies the
    -- invariant.
    object_good : (object : Obj) → slice_get graph o ≡ Some object → IsSome (object_fields (shape_at table t) object) → ((i a : ℕ) → Contains (or_none (object_fields (shape_at table t) object)) (i, a) → IsTrue (is_asked_in table a) → IsField table graph all back noted whole missed o i trail a) → IsGoodBut o t trail
    object_good object at some each = record {
      fits = subst (λ x. IsSome (option_and_then (object_fields (shape_at table t)) x)) (sym at) some;
      fields = λ i a needed.
          let typed = need_typed table graph (vals.Ref o) t i a needed in
          each i a (subst (λ x. Contains (or_none (option_and_then (object_fields (shape_at table t)) x)) (i, a)) at typed.0) typed.1;
      way = λ asked. real_from table graph all whole back noted missed trail o t (real asked);
    }

    pub leaf_good : (object : Obj) → slice_get graph o ≡ Some object → IsLeaf object → IsSome (object_fields (shape_at table t) object) → IsGoodBut o t trail
    leaf_good object at is some = object_good object at some (λ i a typed asked. absurd (leaf_needs (shape_at table t) object i a is typed))

    module _ (tag : ℕ) (values : List Val) (needs : List Need) (placed : ArePlaced table graph all back noted whole missed o trail 0 values needs) where
      -- If the values of a block satisfy the requirement for a hash with an argument, then the tag
      -- has fields.
      tag_some : (tags : List (PolyTag ℕ)) (vs : List Val) → ArePlaced table graph all back noted whole missed o trail 0 vs (hash_of tags ∷ []) → IsSome (tag_fields tags vs)
      tag_some tags [] are = absurd are
      tag_some tags (v ∷ []) are = absurd are.2
      tag_some tags (v ∷ w ∷ x ∷ vs) are = absurd are.2.1
      tag_some tags (v ∷ w ∷ []) are =
          let h = are.1 in
          let same : tag_fields tags (vals.Int h.hash ∷ w ∷ []) ≡ Some ((1, are.0) ∷ []) =
          ap (option_and_then (λ (tag : PolyTag ℕ). argument_field tag.arg)) h.has_hash ∙ ap argument_field h.has_argument in
          subst IsSome (sym (ap (λ u. tag_fields tags (u ∷ w ∷ [])) h.is_hash ∙ same)) refl

      fields_some : (fields : Option (List (ℕ × ℕ))) → AreFields values needs fields → IsSome fields
      fields_some fields (numbered ts asks its) = subst IsSome (sym its) refl
      fields_some fields (tagged tags asks its two) =
          subst IsSome (sym its) (tag_some tags values (subst (ArePlaced table graph all back noted whole missed o trail 0 values) asks placed))

      -- If the values of a block are placed, then the block satisfies the invariant, also if its
      -- type is a wildcard.
      pub block_good : slice_get graph o ≡ Some (objects.Block tag values) → fields_ask table t tag (length values) ≡ Some needs → IsGoodBut o t trail
      block_good at is = by (is_asked_in table t) refl is where
        by : (asked : Bool) → is_asked_in table t ≡ asked → (if asked then block_needs (shape_at table t) tag (length values) else Some (map of_type (replicate (length values) t))) ≡ Some needs → IsGoodBut o t trail
        by true asked is =
            object_good (objects.Block tag values) at
            (fields_some (block_fields (shape_at table t) tag values) (fields_are (shape_at table t) tag values needs is))
            (λ i a typed asked_a.
            let f = fields_placed table graph all back noted whole missed o trail (shape_at table t) tag values needs i a is placed typed in
            record {
              value = f.value;
              field = ap (option_and_then (λ object. slice_get (values_of object) i)) at ∙ f.at;
              placed = f.placed asked_a;
            })
        by false wildcard is =
            let none' = wildcard_fields (shape_at table t) tag values wildcard in
            object_good (objects.Block tag values) at (subst IsSome (sym none') refl)
            (λ i a typed asked_a. absurd (Contains-none (i, a) (subst (λ x. Contains (or_none x) (i, a)) none' typed)))
