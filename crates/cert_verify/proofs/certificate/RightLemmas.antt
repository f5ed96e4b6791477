-- Conditions under which all pairs are right.
use Rattle.std.proofs.Common.{ℕ, ◌<◌, ◌≤◌, ◌+◌, ◌%◌, ◌≡◌, ◌∙◌, ⊎_elim, inl, Bool, true, false, List, length, Some, refl, sym, ap, subst, arith}
use Rattle.std.specs.Prelude.{Contains, slice_get, IsTrue, ◌↔◌}
use Rattle.std.specs.Bool.{OnTrue}
use Rattle.std.proofs.lemmas.Bool.{false≢true}
use Rattle.std.proofs.lemmas.Option.{slice_get_within}
use Rattle.base_data.proofs.model.Lists.{Contains-position as position_in}
use Rattle.base_data.proofs.model.Numbers.{less_same_more}
use Rattle.base_data.specs.model.Graph.{IsValue, IsGraph}
use Rattle.base_data.specs.declared.model.value.Val.{Val}
use Rattle.base_data.specs.declared.model.value.Val.TheVariants as vals
use Rattle.base_data.specs.declared.model.value.Obj.{Obj}
use Rattle.marshal_heap.specs.heap.Heap.{word_of}
use Rattle.marshal_heap.proofs.heap.HeapReadLemmas.{word_of-inj}
use Rattle.types_spec.specs.declared.types.shape.ShapeOf.{ShapeOf}
use Rattle.types_spec.specs.types.Fitting.{is_mutable}
use Rattle.types_spec.specs.types.LawfulShapes.{AreLawful, Everything}
use Rattle.types_spec.specs.types.Table.{Table, table_shapes, node_or_none, is_asked_in}
use Rattle.cert_verify.specs.declared.certificate.right.Worded.{Worded}
use Rattle.cert_verify.specs.certificate.Verified.{IsThere}
use Rattle.cert_verify.specs.certificate.Testing.{StandsAt, AreAllThere, AreRight, IsRight, IsRightAt}
use Rattle.cert_verify.specs.certificate.Right.{AllFit, IsBacked, IsWorded, IsRightWithAll, AreRightWithAll}
use Rattle.cert_verify.proofs.certificate.EntryHeldLemmas.{no_object_held, stands_held, stands_at}

module _ (table : Table) (graph : List Obj) (pairs : List (ℕ × ℕ)) where
  -- ---- one value

  module _ (lawful : AreLawful (table_shapes table) Everything) (graph' : IsGraph graph) (word t : ℕ) where
    -- If all pairs fit, and some pair has the object of a word at an equal type, then the object
    -- fits the type.
    stands_fits : (v : Val) → IsValue (length graph) v → word ≡ word_of graph v → StandsAt table graph pairs word t → AllFit table graph pairs → (table_shapes table).fits graph v t
    stands_fits v valid is at all =
        let same : v ≡ vals.Ref at.object = word_of-inj graph v (vals.Ref at.object) graph' valid at.inside (sym is ∙ at.named) in
        subst (λ w. (table_shapes table).fits graph w t) (sym same)
        (lawful.fits graph (vals.Ref at.object) at.among.0 t (inl tt) at.among.2 (all at.object at.among.0 at.among.1))

    pub stands_backed : (IsTrue (is_asked_in table t) → StandsAt table graph pairs word t) → IsBacked table graph pairs word t
    stands_backed at v valid is asked all =
        stands_held table graph pairs t v word graph' valid is (stands_fits v valid is (at asked) all) (at asked)

  pub fits_backed :
      (word t : ℕ) (fits : Bool) → (word % 8 ≡ 0 → ⊥)
      → ((v : Val) → IsValue (length graph) v → word ≡ word_of graph v → IsTrue fits ↔ (table_shapes table).fits graph v t)
      → OnTrue fits (IsBacked table graph pairs word t)
  fits_backed word t true odd reports = λ v valid is asked all. no_object_held table graph pairs t v word is odd ((reports v valid is).0 refl)
  fits_backed word t false odd reports = tt

  -- ---- one pair

  pub worded_there : (i : ℕ) (pair : Worded) → AreAllThere table graph pairs → IsWorded graph pairs i pair → IsThere table graph (pair.object, pair.ty)
  worded_there i pair there is =
      let k = position_in pairs (pair.object, pair.ty) is.among in there k.0 (pair.object, pair.ty) k.1

  pub pair_fits :
      (i : ℕ) (pair : Worded) (fits : Bool) → AreAllThere table graph pairs → IsWorded graph pairs i pair
      → ((v : Val) → IsValue (length graph) v → pair.word ≡ word_of graph v → IsTrue fits ↔ (table_shapes table).fits graph v pair.ty)
      → IsTrue fits → (table_shapes table).fits graph (vals.Ref pair.object) pair.ty
  pair_fits i pair fits there is reports yes' = (reports (vals.Ref pair.object) (worded_there i pair there is).0 is.named).0 yes'

  pub worded_stands : (i : ℕ) (pair : Worded) → AreAllThere table graph pairs → IsWorded graph pairs i pair → StandsAt table graph pairs pair.word pair.ty
  worded_stands i pair there is =
      let k = position_in pairs (pair.object, pair.ty) is.among in
      stands_at table pairs graph pair.word pair.object pair.ty pair.ty is.among (there k.0 (pair.object, pair.ty) k.1).0 is.named refl

  -- If an object is immutable at a type, then the condition on mutable objects holds for it.
  pub fixed_is_at_one_type :
      (o t : ℕ) (shape : ShapeOf ℕ) → slice_get table.nodes t ≡ Some shape → is_mutable shape (slice_get graph o) ≡ false
      → (u : ℕ) → Contains pairs (o, u) → (table_shapes table).mutable graph o t → (table_shapes table).equal t u
  fixed_is_at_one_type o t shape at_type fixed u among mutable =
      absurd (false≢true (sym fixed ∙ (ap (λ n. is_mutable (node_or_none n) (slice_get graph o)) (sym at_type) ∙ mutable.1)))

  -- ---- all pairs

  pub none_so_far : AreRightWithAll table graph pairs 0
  none_so_far = record { fit = λ k less. absurd (omega (arith, less)); right = λ all k less. absurd (omega (arith, less)) }

  pub right_so_far_more : (i : ℕ) → AreRightWithAll table graph pairs i → IsRightWithAll table graph pairs i → AreRightWithAll table graph pairs (i + 1)
  right_so_far_more i before own = record {
    fit = λ k less. by_position k less (λ n. (p : ℕ × ℕ) → slice_get pairs n ≡ Some p → (table_shapes table).fits graph (vals.Ref p.0) p.1) before.fit own.fits;
    right = λ all k less. by_position k less (IsRightAt table graph pairs) (before.right all) (own.right all);
  } where
    by_position : (k : ℕ) → k < i + 1 → (P : ℕ → Type 0) → ((j : ℕ) → j < i → P j) → P i → P k
    by_position k less P earlier last = ⊎_elim
        (λ smaller. earlier k smaller)
        (λ others. ⊎_elim
        (λ same. subst P (sym same) last)
        (λ more. absurd (omega (arith, less, more)))
        others)
        (less_same_more k i)

  of_pair : AreRight table graph pairs (length pairs) → (o t : ℕ) → Contains pairs (o, t) → IsRight table graph pairs (o, t)
  of_pair right o t among =
      let k = position_in pairs (o, t) among in right k.0 (slice_get_within pairs k.0 (o, t) k.1) (o, t) k.1

  pub right_fit : AreRight table graph pairs (length pairs) → AllFit table graph pairs
  right_fit right o t among = (of_pair right o t among).fits

  pub all_right : (n : ℕ) → length pairs ≤ n → AreRightWithAll table graph pairs n → AreRight table graph pairs (length pairs)
  all_right n many are = λ k less. are.right all_fit k (omega (arith, less, many)) where
    all_fit : AllFit table graph pairs
    all_fit o t among =
        let k = position_in pairs (o, t) among in
        let inside = slice_get_within pairs k.0 (o, t) k.1 in
        are.fit k.0 (omega (arith, inside, many)) (o, t) k.1
